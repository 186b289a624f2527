use Rattle.pur_attrs.proofs.DistinctLemmas.{valid-distinct}
use Rattle.pur_attrs.proofs.laws.keeps_distinct.Goals as goal

pub returns : goal.returns
returns c = valid-distinct
