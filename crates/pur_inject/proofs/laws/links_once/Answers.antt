use Rattle.pur_inject.proofs.BothLemmas.{links-once}
use Rattle.pur_inject.proofs.laws.links_once.Goals as goal

pub returns : goal.returns
returns c = links-once
