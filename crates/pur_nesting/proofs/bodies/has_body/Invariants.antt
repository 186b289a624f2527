use Rattle.std.proofs.Common.{◌≡◌, [], ◌∷◌, drop}
use Rattle.pur_names.specs.declared.elements.Element.TheVariants.{Tbody}
use Rattle.pur_tree.specs.Image.{nodes_of}
use Rattle.pur_nesting.specs.Tables.{has_child}
use Rattle.pur_nesting.proofs.bodies.has_body.Given as goal

abbrev pub invariant-loop-node : goal.invariant-loop-node
invariant-loop-node l = has_child (Tbody ∷ []) (nodes_of l.nodes) ≡ has_child (Tbody ∷ []) (nodes_of (drop l.node-index l.nodes))
