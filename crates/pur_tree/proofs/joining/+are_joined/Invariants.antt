use Rattle.std.proofs.Common.{◌≡◌, drop}
use Rattle.pur_tree.specs.Image.{nodes_of}
use Rattle.pur_tree.specs.Nodes.{is_joined}
use Rattle.pur_tree.specs.Private.Joining.{joined_behind}
use Rattle.pur_tree.proofs.joining.+are_joined.Given as goal

abbrev pub invariant-are_joined-loop-node : goal.invariant-are_joined-loop-node
invariant-are_joined-loop-node l = joined_behind l.after_text (nodes_of (drop l.node-index l.nodes)) ≡ is_joined (nodes_of l.nodes)
