use Rattle.pur_nesting.proofs.ValidLemmas.{valid_settled}
use Rattle.pur_nesting.proofs.laws.valid_are_settled.Goals as goal

pub returns : goal.returns
returns c = valid_settled
