use Rattle.std.proofs.Common.{◌≡◌, drop}
use Rattle.pur_tree.specs.Image.{nodes_of}
use Rattle.pur_nesting.specs.Tables.{are_blank}
use Rattle.pur_nesting.proofs.tables.are_blank.Given as goal

abbrev pub invariant-loop-node : goal.invariant-loop-node
invariant-loop-node l = are_blank (nodes_of l.nodes) ≡ are_blank (nodes_of (drop l.node-index l.nodes))
