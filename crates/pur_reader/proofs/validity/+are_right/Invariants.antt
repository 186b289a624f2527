-- What is left is right where all are.
use Rattle.std.proofs.Common.{◌≡◌, drop}
use Rattle.pur_tree.specs.Image.{nodes_of}
use Rattle.pur_reader.specs.Private.Judging.{right_within}
use Rattle.pur_reader.proofs.validity.+are_right.Given as goal

abbrev pub invariant-are_right-loop-node : goal.invariant-are_right-loop-node
invariant-are_right-loop-node g l =
    right_within l.settings l.gate l.content l.round (nodes_of (drop l.node-index l.nodes)) ≡ right_within l.settings l.gate l.content l.round (nodes_of l.nodes)
