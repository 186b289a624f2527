use Rattle.pur_wellform.proofs.AllowedFacts.{closed-allowed}
use Rattle.pur_wellform.proofs.laws.closed_is_allowed.Goals as goal

pub returns : goal.returns
returns c = closed-allowed
