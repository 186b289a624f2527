use Rattle.std.proofs.Common.{◌≡◌, Bool, true, false, not, ◌&&◌, ◌||◌, refl, sym, ◌∙◌}
use Rattle.pur_names.specs.Elements.{same_element}
use Rattle.pur_names.specs.declared.elements.Element.TheVariants.{Table}
use Rattle.pur_tree.specs.Image.{nodes_of}
use Rattle.pur_tree.specs.Nodes.{starts_with_text}
use Rattle.pur_tree.proofs.NodeLemmas.{before_text, before_elem}
use Rattle.pur_nesting.specs.Nesting.{vanishes}
use Rattle.pur_nesting.specs.Private.Order.{is_in_order, is_settled, is_settled_element}
use Rattle.pur_nesting.proofs.settled.+settled.Goals as goal

and_true : (b : Bool) → b ≡ (b && true)
and_true true = refl
and_true false = refl

elem_stays : (a b k r s : Bool) → (a && (b && k)) ≡ true → (a && (b && (k && r))) ≡ (not (s && false) && r)
elem_stays true true true r true h = refl
elem_stays true true true r false h = refl
elem_stays true true false r s h = absurd (cc)
elem_stays true false k r s h = absurd (cc)
elem_stays false b k r s h = absurd (cc)

elem_fails : (a b k r : Bool) → (a && (b && k)) ≡ false → (a && (b && (k && r))) ≡ false
elem_fails true true true r h = absurd (cc)
elem_fails true true false r h = refl
elem_fails true false k r h = refl
elem_fails false b k r h = refl

pub after_node-returns-then-after_text : goal.after_node-returns-then-after_text
after_node-returns-then-after_text t c = λ more. rw (c.in-Text.is, before_text c.in-Text.field-0 more, c.if-after_text.true) refl

pub after_node-returns-else-after_text : goal.after_node-returns-else-after_text
after_node-returns-else-after_text t c = λ more.
    rw (c.in-Text.is, before_text c.in-Text.field-0 more, c.if-after_text.false, ← and_true (starts_with_text more)) refl

pub after_node-returns-then-is_settled_element : goal.after_node-returns-then-is_settled_element
after_node-returns-then-is_settled_element t c = λ more.
    let name = c.in-Elem.elem.name in
    let kids = nodes_of c.in-Elem.elem.children.items in
    let test : is_settled_element name kids ≡ true = sym c.is_settled_element.ensures ∙ c.if-is_settled_element.true in
    rw (c.in-Elem.is, before_elem name c.in-Elem.elem.attrs c.in-Elem.elem.children more)
    (elem_stays (not (vanishes name kids)) (not (same_element name Table) || is_in_order kids) (is_settled kids) (is_settled more) (starts_with_text more) test)

pub after_node-returns-else-is_settled_element : goal.after_node-returns-else-is_settled_element
after_node-returns-else-is_settled_element t c = λ more.
    let name = c.in-Elem.elem.name in
    let kids = nodes_of c.in-Elem.elem.children.items in
    let test : is_settled_element name kids ≡ false = sym c.is_settled_element.ensures ∙ c.if-is_settled_element.false in
    rw (c.in-Elem.is, before_elem name c.in-Elem.elem.attrs c.in-Elem.elem.children more)
    (elem_fails (not (vanishes name kids)) (not (same_element name Table) || is_in_order kids) (is_settled kids) (is_settled more) test)
