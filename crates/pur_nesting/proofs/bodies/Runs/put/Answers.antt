use Rattle.pur_tree.proofs.NodeLemmas.{before_text, before_elem}
use Rattle.pur_nesting.proofs.bodies.Runs.put.Goals as goal

pub returns-in_ok-put_text-in-Text : goal.returns-in_ok-put_text-in-Text
returns-in_ok-put_text-in-Text c = λ more. rw (c.in-Text.is, before_text c.in-Text.text more) (c.in_ok-put_text-in-Text.ensures more)

pub returns-in_ok-put_row-in-Elem : goal.returns-in_ok-put_row-in-Elem
returns-in_ok-put_row-in-Elem c = λ more. rw (c.in-Elem.is, before_elem c.in-Elem.elem.name c.in-Elem.elem.attrs c.in-Elem.elem.children more) (c.in_ok-put_row-in-Elem.ensures more)

pub returns-in_ok-put_other-in-Elem : goal.returns-in_ok-put_other-in-Elem
returns-in_ok-put_other-in-Elem c = λ more. rw (c.in-Elem.is, before_elem c.in-Elem.elem.name c.in-Elem.elem.attrs c.in-Elem.elem.children more) (c.in_ok-put_other-in-Elem.ensures more)
