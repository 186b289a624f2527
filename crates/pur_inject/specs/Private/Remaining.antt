-- Nodes that are taken from the front of a list.
use Rattle.std.specs.Prelude.{reverse}
use Rattle.pur_tree.specs.Image.{nodes_of}
use Rattle.pur_tree.specs.Nodes.{Nodes}
use Rattle.pur_inject.specs.declared.remaining.Remaining.{Remaining}

-- the nodes that remain, first in front
abbrev pub remaining : Remaining → Nodes
remaining r = nodes_of (reverse r.nodes.items)
