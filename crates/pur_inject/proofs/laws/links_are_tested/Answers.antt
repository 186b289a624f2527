use Rattle.pur_inject.proofs.LinkKeepLemmas.{tested}
use Rattle.pur_inject.proofs.laws.links_are_tested.Goals as goal

pub returns : goal.returns
returns c = λ test rules rule each n. tested rules rule n test each
