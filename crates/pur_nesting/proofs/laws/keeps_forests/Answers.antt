use Rattle.pur_nesting.proofs.ForestLemmas.{nested_forest}
use Rattle.pur_nesting.proofs.laws.keeps_forests.Goals as goal

pub returns : goal.returns
returns c = nested_forest
