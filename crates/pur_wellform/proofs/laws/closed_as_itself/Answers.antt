use Rattle.pur_wellform.proofs.FixFacts.{closed-itself}
use Rattle.pur_wellform.proofs.laws.closed_as_itself.Goals as goal

pub returns : goal.returns
returns c = closed-itself
