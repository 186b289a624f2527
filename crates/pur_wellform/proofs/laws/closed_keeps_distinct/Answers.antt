use Rattle.pur_wellform.proofs.ForestFacts.{closed-distinct}
use Rattle.pur_wellform.proofs.laws.closed_keeps_distinct.Goals as goal

pub returns : goal.returns
returns c = closed-distinct
