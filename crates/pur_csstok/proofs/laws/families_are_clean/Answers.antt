use Rattle.pur_csstok.proofs.FamilyLaws.{families-clean}
use Rattle.pur_csstok.proofs.laws.families_are_clean.Goals as goal

pub returns : goal.returns
returns c = families-clean
