use Rattle.std.proofs.Common.{◌≡◌, drop}
use Rattle.pur_tree.specs.Image.{nodes_of}
use Rattle.pur_nesting.specs.Private.Handing.{has_head_or_foot}
use Rattle.pur_nesting.proofs.bodies.has_head_or_foot.Given as goal

abbrev pub invariant-loop-node : goal.invariant-loop-node
invariant-loop-node l = has_head_or_foot (nodes_of l.nodes) ≡ has_head_or_foot (nodes_of (drop l.node-index l.nodes))
