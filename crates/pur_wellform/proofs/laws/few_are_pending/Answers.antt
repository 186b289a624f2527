use Rattle.pur_wellform.proofs.StepFacts.{few_pend}
use Rattle.pur_wellform.proofs.laws.few_are_pending.Goals as goal

pub returns : goal.returns
returns c = few_pend
