use Rattle.pur_nesting.proofs.ValidLemmas.{nested_settled}
use Rattle.pur_nesting.proofs.laws.is_settling.Goals as goal

pub returns : goal.returns
returns c = nested_settled
