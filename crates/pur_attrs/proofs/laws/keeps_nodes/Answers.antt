use Rattle.pur_attrs.proofs.StayingLemmas.{nodes_stay}
use Rattle.pur_attrs.proofs.laws.keeps_nodes.Goals as goal

pub returns : goal.returns
returns c rules rule nodes = nodes_stay rules rule nodes
