use Rattle.std.proofs.Common.{◌≡◌, false, drop}
use Rattle.pur_tree.specs.Image.{nodes_of}
use Rattle.pur_nesting.specs.Private.Order.{goes_on}
use Rattle.pur_nesting.proofs.settled.goes_on.Given as goal

abbrev pub invariant-loop-node : goal.invariant-loop-node
invariant-loop-node l =
    goes_on l.groups l.bodies 0 false (nodes_of l.nodes) ≡ goes_on l.groups l.bodies l.order.stage l.order.had (nodes_of (drop l.node-index l.nodes))
