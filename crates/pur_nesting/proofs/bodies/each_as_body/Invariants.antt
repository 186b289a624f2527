use Rattle.std.proofs.Common.{◌≡◌}
use Rattle.std.specs.Vec.Iter.{into_iter_items}
use Rattle.pur_tree.specs.Nodes.{nodes_append}
use Rattle.pur_tree.specs.Image.{nodes_of}
use Rattle.pur_nesting.specs.Tables.{as_bodies}
use Rattle.pur_nesting.proofs.bodies.each_as_body.Given as goal

abbrev pub invariant-loop-node : goal.invariant-loop-node
invariant-loop-node l =
    nodes_append (nodes_of l.out.items) (as_bodies l.tbody (nodes_of (into_iter_items l.node-iterator))) ≡ as_bodies l.tbody (nodes_of l.fn.nodes.items)
