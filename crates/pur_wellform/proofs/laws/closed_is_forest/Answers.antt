use Rattle.pur_wellform.proofs.ForestFacts.{closed-forest}
use Rattle.pur_wellform.proofs.laws.closed_is_forest.Goals as goal

pub returns : goal.returns
returns c = closed-forest
