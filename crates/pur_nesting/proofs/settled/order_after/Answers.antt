use Rattle.std.proofs.Common.{◌≡◌, true, false, refl, sym, ◌∙◌, string_bytes}
use Rattle.std.specs.Str.{chars}
use Rattle.pur_text.specs.Characters.{is_blank}
use Rattle.pur_tree.specs.Image.{nodes_of}
use Rattle.pur_tree.specs.Nodes.{plain_elem}
use Rattle.pur_tree.proofs.NodeLemmas.{before_text, before_elem}
use Rattle.pur_nesting.proofs.settled.order_after.Goals as goal

pub returns-then-is_blank : goal.returns-then-is_blank
returns-then-is_blank c = λ more.
    let space : is_blank (chars (string_bytes c.in-Text.text)) ≡ true = rw (← c.as_str.ensures.value) (sym c.is_blank.ensures ∙ c.if-is_blank.true) in
    rw (c.in-Text.is, before_text c.in-Text.text more, space) refl

pub returns-else-is_blank : goal.returns-else-is_blank
returns-else-is_blank c = λ more.
    let space : is_blank (chars (string_bytes c.in-Text.text)) ≡ false = rw (← c.as_str.ensures.value) (sym c.is_blank.ensures ∙ c.if-is_blank.false) in
    rw (c.in-Text.is, before_text c.in-Text.text more, space) refl

pub returns-in-Elem : goal.returns-in-Elem
returns-in-Elem c = λ more.
    rw (c.in-Elem.is, before_elem c.in-Elem.elem.name c.in-Elem.elem.attrs c.in-Elem.elem.children more)
    (c.order_after_element.ensures (plain_elem c.in-Elem.elem.name c.in-Elem.elem.attrs) (nodes_of c.in-Elem.elem.children.items) more (sym c.role_of.ensures))
