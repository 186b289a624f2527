use Rattle.std.proofs.Common.{◌≡◌, drop}
use Rattle.pur_tree.specs.Image.{nodes_of}
use Rattle.pur_inject.specs.Private.Cutting.{are_colonless}
use Rattle.pur_inject.proofs.linking.are_colonless.Given as goal

abbrev pub invariant-loop-node : goal.invariant-loop-node
invariant-loop-node l = are_colonless (nodes_of l.nodes) ≡ are_colonless (nodes_of (drop l.node-index l.nodes))
