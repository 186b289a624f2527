use Rattle.std.proofs.Common.{◌≡◌, [], ◌∷◌, false, ◌&&◌, sym}
use Rattle.pur_names.specs.declared.elements.Element.TheVariants.{Tbody, Tr}
use Rattle.pur_tree.specs.Image.{nodes_of}
use Rattle.pur_nesting.specs.Tables.{has_child}
use Rattle.pur_nesting.proofs.HandingLemmas.{same_kind}
use Rattle.pur_nesting.proofs.bodies.of_one_kind.Goals as goal

pub returns : goal.returns
returns c =
    let f = nodes_of c.args.bodies.items in
    let apart : (has_child (Tbody ∷ []) f && has_child (Tr ∷ []) f) ≡ false = rw (← c.deref.ensures.value) (sym c.if-are_mixed.ensures) in
    same_kind f apart
