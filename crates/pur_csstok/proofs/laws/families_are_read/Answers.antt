use Rattle.pur_csstok.proofs.FamilyLaws.{families-again}
use Rattle.pur_csstok.proofs.laws.families_are_read.Goals as goal

pub returns : goal.returns
returns c = families-again
