use Rattle.std.proofs.Common.{◌≡◌, drop}
use Rattle.pur_tree.specs.Image.{nodes_of}
use Rattle.pur_nesting.specs.Private.Order.{is_settled, is_settled_after}
use Rattle.pur_nesting.proofs.settled.+settled.Given as goal

abbrev pub invariant-is_settled-loop-node : goal.invariant-is_settled-loop-node
invariant-is_settled-loop-node l = is_settled (nodes_of l.nodes) ≡ is_settled_after l.after_text (nodes_of (drop l.node-index l.nodes))
