use Rattle.pur_nesting.proofs.ValidLemmas.{nested_twice}
use Rattle.pur_nesting.proofs.laws.repairs_once.Goals as goal

pub returns : goal.returns
returns c = nested_twice
