use Rattle.std.proofs.Common.{refl, ◌∷◌, []}
use Rattle.pur_names.specs.declared.elements.Element.TheVariants.{Tbody}
use Rattle.pur_modules.specs.Groups.{is_among}
use Rattle.pur_tree.proofs.NodeLemmas.{before_text, before_elem}
use Rattle.pur_nesting.specs.Tables.{has_child}
use Rattle.pur_nesting.proofs.NodeLemmas.{or_if}
use Rattle.pur_nesting.proofs.bodies.is_body.Goals as goal

pub returns-in-Text : goal.returns-in-Text
returns-in-Text c = λ more. rw (c.in-Text.is, before_text c.in-Text.field-0 more) refl

pub returns-in-Elem : goal.returns-in-Elem
returns-in-Elem c = λ more. rw (c.in-Elem.is, before_elem c.in-Elem.elem.name c.in-Elem.elem.attrs c.in-Elem.elem.children more, c.is_tbody.ensures)
    (or_if (is_among (Tbody ∷ []) c.in-Elem.elem.name) (has_child (Tbody ∷ []) more))
