use Rattle.pur_foreign.proofs.AllowedLemmas.{foreign_allowed}
use Rattle.pur_foreign.proofs.laws.removal_keeps_allowed.Goals as goal

pub returns : goal.returns
returns c = foreign_allowed
