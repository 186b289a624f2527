use Rattle.pur_nesting.proofs.SettledLemmas.{settled_same}
use Rattle.pur_nesting.proofs.laws.leaves_settled.Goals as goal

pub returns : goal.returns
returns c = settled_same
