-- What an element that needs a child holds.
use Rattle.std.proofs.Common.{◌≡◌, length, List, Bool, true, false, not, ◌&&◌, ◌||◌, refl}
use Rattle.std.specs.Prelude.{nat_lt}
use Rattle.std.specs.List.{list_all}
use Rattle.std.proofs.lemmas.Bool.{and_parts, not-true}
use Rattle.pur_names.specs.declared.elements.Element.{Element}
use Rattle.pur_names.specs.Elements.{all_elements}
use Rattle.pur_names.proofs.ElementLaws.{each_element}
use Rattle.pur_modules.specs.declared.kinds.Child.TheVariants.{Elem}
use Rattle.pur_modules.specs.declared.kinds.Content.{Content}
use Rattle.pur_modules.specs.declared.kinds.Doctype.{Doctype}
use Rattle.pur_modules.specs.Contents.{content_held}
use Rattle.pur_modules.specs.Groups.{is_among}
use Rattle.pur_modules.specs.Expressions.{is_letter, has_text_letter, child_letters}
use Rattle.pur_models.specs.Laws.{may_be_empty}
use Rattle.pur_tree.specs.Nodes.{Nodes, no_nodes, text_first, elem_first}
use Rattle.pur_tree.specs.Properties.{Holds, letters}
use Rattle.pur_nesting.specs.Repaired.{is_repaired}
use Rattle.pur_nesting.specs.Tables.{has_child}
use Rattle.pur_nesting.specs.Nesting.{needed_by, vanishes}
use Rattle.pur_nesting.proofs.OneLemmas.{NoElems}
use Rattle.pur_nesting.proofs.BlankLemmas.{Blank, Blank-letters}

abbrev pub needs : Element → Bool
needs e = nat_lt 0 (length (needed_by e))

implied : (a b : Bool) → (not a || b) ≡ true → a ≡ true → b ≡ true
implied true b h k = h
implied false b h k = absurd (cc)

-- a letter of its content is a child of which it needs one
abbrev is_needed : Doctype → Content → Element → Element → Bool
is_needed d k e x = not (is_letter d (content_held d e k) (Elem x)) || is_among (needed_by e) x

-- its content has no text, no letters but the children of which it needs one, isn't the content of an empty element, and is repaired
abbrev needs_what_it_holds : Doctype → Content → Element → Bool
needs_what_it_holds d k e =
    not (needs e)
    || ((not (has_text_letter d (content_held d e k)) && (not (may_be_empty (content_held d e k)) && is_repaired (content_held d e k)))
    && list_all (is_needed d k e) all_elements)

all_need_what_they_hold : (d : Doctype) (k : Content) → list_all (needs_what_it_holds d k) all_elements ≡ true
unfolding content_held child_letters has_text_letter
all_need_what_they_hold d k = refl

needed_letters : (d : Doctype) (k : Content) (e : Element) → needs e ≡ true
    → (has_text_letter d (content_held d e k) ≡ false) × (may_be_empty (content_held d e k) ≡ false) × (is_repaired (content_held d e k) ≡ true)
    × ((x : Element) → is_letter d (content_held d e k) (Elem x) ≡ true → is_among (needed_by e) x ≡ true)
needed_letters d k e n =
    let all = implied (needs e) _ (each_element (needs_what_it_holds d k) (all_need_what_they_hold d k) e) n in
    let only : Bool = list_all (is_needed d k e) all_elements in
    let facts = and_parts _ only all in
    let no_text = and_parts (not (has_text_letter d (content_held d e k))) (not (may_be_empty (content_held d e k)) && is_repaired (content_held d e k)) facts.0 in
    let never_empty = and_parts (not (may_be_empty (content_held d e k))) (is_repaired (content_held d e k)) no_text.1 in (
      not-true _ no_text.0,
      not-true _ never_empty.0,
      never_empty.1,
      λ x. implied (is_letter d (content_held d e k) (Elem x)) (is_among (needed_by e) x) (each_element (is_needed d k e) facts.1 x),
    )

NoElems-needed : (es : List Element) (d : Doctype) (k : Content) (f : Nodes) → ((x : Element) → is_letter d k (Elem x) ≡ true → is_among es x ≡ true)
    → has_child es f ≡ false → Holds (letters d) k f → NoElems f
NoElems-needed es d k no_nodes only none h = tt
NoElems-needed es d k (text_first s f) only none h = NoElems-needed es d k f only none h.1
NoElems-needed es d k (elem_first e kids f) only none h =
    let here : is_among es e.name ≡ true = only e.name h.0 in
    let k : (true || has_child es f) ≡ false = rw here at none in absurd (cc)

-- an element vanishes that needs a child and has none: what it holds is white space alone
pub vanished : (d : Doctype) (k : Content) (e : Element) (kids : Nodes) → vanishes e kids ≡ true → Holds (letters d) (content_held d e k) kids
    → (has_text_letter d (content_held d e k) ≡ false) × (may_be_empty (content_held d e k) ≡ false) × (is_repaired (content_held d e k) ≡ true)
    × Blank kids × NoElems kids
vanished d k e kids gone h =
    let parts = and_parts (needs e) (not (has_child (needed_by e) kids)) gone in
    let facts = needed_letters d k e parts.0 in (
      facts.0,
      facts.1,
      facts.2,
      Blank-letters d (content_held d e k) kids facts.0 h,
      NoElems-needed (needed_by e) d (content_held d e k) kids facts.3 (not-true _ parts.1) h,
    )
