use Rattle.std.proofs.Common.{refl}
use Rattle.pur_tree.proofs.NodeLemmas.{before_text, before_elem}
use Rattle.pur_nesting.proofs.bodies.is_element.Goals as goal

pub returns-in-Text : goal.returns-in-Text
returns-in-Text c = λ more. rw (c.in-Text.is, before_text c.in-Text.field-0 more) refl

pub returns-in-Elem : goal.returns-in-Elem
returns-in-Elem c = λ more. rw (c.in-Elem.is, before_elem c.in-Elem.field-0.name c.in-Elem.field-0.attrs c.in-Elem.field-0.children more) refl
