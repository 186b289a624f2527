use Rattle.pur_wellform.proofs.PropertyFacts.{closed_stand}
use Rattle.pur_wellform.proofs.laws.is_closed_stands.Goals as goal

pub returns : goal.returns
returns c = closed_stand
