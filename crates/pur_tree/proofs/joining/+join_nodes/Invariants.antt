use Rattle.std.proofs.Common.{◌≡◌}
use Rattle.std.specs.Vec.Iter.{into_iter_items}
use Rattle.pur_tree.specs.Image.{nodes_of}
use Rattle.pur_tree.specs.Private.Joining.{joining}
use Rattle.pur_tree.specs.Walks.{joined_nodes}
use Rattle.pur_tree.proofs.joining.+join_nodes.Given as goal

abbrev pub invariant-loop-node : goal.invariant-loop-node
invariant-loop-node l = joining l.joining (joined_nodes (nodes_of (into_iter_items l.node-iterator))) ≡ joined_nodes (nodes_of l.fn.nodes.items)
