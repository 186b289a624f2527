use Rattle.std.proofs.Common.{◌≡◌, drop}
use Rattle.pur_tree.specs.Image.{nodes_of}
use Rattle.pur_nesting.specs.Nesting.{needed_by}
use Rattle.pur_nesting.specs.Tables.{has_child}
use Rattle.pur_nesting.proofs.nesting.has_needed.Given as goal

abbrev pub invariant-loop-node : goal.invariant-loop-node
invariant-loop-node l = has_child (needed_by l.parent) (nodes_of l.nodes) ≡ has_child (needed_by l.parent) (nodes_of (drop l.node-index l.nodes))
