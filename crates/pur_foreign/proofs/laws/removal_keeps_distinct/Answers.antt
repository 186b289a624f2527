use Rattle.pur_foreign.proofs.DistinctLemmas.{kept_apart}
use Rattle.pur_foreign.proofs.laws.removal_keeps_distinct.Goals as goal

pub returns : goal.returns
returns c = kept_apart
