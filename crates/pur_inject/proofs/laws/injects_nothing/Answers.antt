use Rattle.pur_inject.proofs.BothLemmas.{nothing-injected}
use Rattle.pur_inject.proofs.laws.injects_nothing.Goals as goal

pub returns : goal.returns
returns c = nothing-injected
