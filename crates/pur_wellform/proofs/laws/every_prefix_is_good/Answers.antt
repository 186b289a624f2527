use Rattle.pur_wellform.proofs.StepFacts.{prefix_is_good}
use Rattle.pur_wellform.proofs.laws.every_prefix_is_good.Goals as goal

pub returns : goal.returns
returns c = prefix_is_good
