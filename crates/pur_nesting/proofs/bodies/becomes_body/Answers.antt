use Rattle.std.proofs.Common.{refl}
use Rattle.pur_tree.proofs.NodeLemmas.{before_text, before_elem}
use Rattle.pur_nesting.specs.Parts.{role_of}
use Rattle.pur_nesting.specs.Tables.{is_head_or_foot}
use Rattle.pur_nesting.specs.Private.Handing.{has_head_or_foot}
use Rattle.pur_nesting.proofs.NodeLemmas.{or_if}
use Rattle.pur_nesting.proofs.bodies.becomes_body.Goals as goal

pub returns-in-Text : goal.returns-in-Text
returns-in-Text c = λ more. rw (c.in-Text.is, before_text c.in-Text.field-0 more) refl

pub returns-in-Elem : goal.returns-in-Elem
returns-in-Elem c = λ more. rw (c.in-Elem.is, before_elem c.in-Elem.elem.name c.in-Elem.elem.attrs c.in-Elem.elem.children more, c.is_head_or_foot.ensures, c.role_of.ensures)
    (or_if (is_head_or_foot (role_of c.in-Elem.elem.name)) (has_head_or_foot more))
