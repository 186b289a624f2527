use Rattle.std.proofs.Common.{◌≡◌, drop}
use Rattle.pur_tree.specs.Image.{nodes_of}
use Rattle.pur_inject.specs.Private.Standing.{are_apart}
use Rattle.pur_inject.proofs.paragraphs.are_apart.Given as goal

abbrev pub invariant-loop-node : goal.invariant-loop-node
invariant-loop-node l = are_apart l.doctype (nodes_of l.nodes) ≡ are_apart l.doctype (nodes_of (drop l.node-index l.nodes))
