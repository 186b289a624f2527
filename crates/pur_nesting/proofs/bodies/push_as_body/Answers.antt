use Rattle.pur_tree.proofs.NodeLemmas.{before_text, before_elem}
use Rattle.pur_nesting.specs.Tables.{as_bodies}
use Rattle.pur_nesting.proofs.bodies.push_as_body.Goals as goal

pub returns-in_ok-push_text_node-in-Text : goal.returns-in_ok-push_text_node-in-Text
returns-in_ok-push_text_node-in-Text c = λ more. rw (c.in-Text.is, before_text c.in-Text.text more) (c.in_ok-push_text_node-in-Text.ensures (as_bodies c.args.tbody more))

pub returns-in_ok-push_body-in-Elem : goal.returns-in_ok-push_body-in-Elem
returns-in_ok-push_body-in-Elem c = λ more.
    rw (c.in-Elem.is, before_elem c.in-Elem.elem.name c.in-Elem.elem.attrs c.in-Elem.elem.children more) (c.in_ok-push_body-in-Elem.ensures (as_bodies c.args.tbody more))
