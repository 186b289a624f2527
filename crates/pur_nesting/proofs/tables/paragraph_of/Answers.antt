use Rattle.std.proofs.Common.{ap}
use Rattle.pur_tree.specs.Image.{nodes_of}
use Rattle.pur_tree.proofs.NodeLemmas.{before_text, before_elem}
use Rattle.pur_nesting.proofs.tables.paragraph_of.Goals as goal

pub returns-in-Text : goal.returns-in-Text
returns-in-Text c = λ more. rw (c.in-Text.is, before_text c.in-Text.field-0 more) (ap nodes_of c.new.ensures.items)

pub returns : goal.returns
returns c = λ more. rw (c.in-Elem.is, before_elem c.in-Elem.elem.name c.in-Elem.elem.attrs c.in-Elem.elem.children more) c.in_ok-out-in-Elem.ensures
