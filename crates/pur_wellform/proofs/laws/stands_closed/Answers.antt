use Rattle.pur_wellform.proofs.PropertyFacts.{is_closed}
use Rattle.pur_wellform.proofs.laws.stands_closed.Goals as goal

pub returns : goal.returns
returns c = is_closed
