-- What the tables say of formatting, inline elements and wrappers, each by computing over a list.
use Rattle.std.proofs.Common.{◌≡◌, List, [], ◌∷◌, refl, ap, subst, ◌∙◌, Bool, true, false, not, ◌&&◌, ◌||◌, if◌then◌else◌, Option, Some, None}
use Rattle.std.specs.List.{list_all}
use Rattle.pur_names.specs.Elements.{same_element}
use Rattle.pur_names.specs.declared.elements.Element.{Element}
use Rattle.pur_names.specs.declared.elements.Element.TheVariants.{A, Pre, Form, Label, Button, Li, Dd, Tr, OptionItem, P}
use Rattle.pur_modules.specs.declared.kinds.Child.{Child}
use Rattle.pur_modules.specs.declared.kinds.Child.TheVariants.{Text, Elem}
use Rattle.pur_modules.specs.declared.kinds.Content.{Content}
use Rattle.pur_modules.specs.declared.kinds.Content.TheVariants.{Inline, Block, Items, OptionItems, Options, Pairs, TableParts, Rows}
use Rattle.pur_modules.specs.declared.kinds.Doctype.{Doctype}
use Rattle.pur_modules.specs.declared.kinds.Doctype.TheVariants.{Strict, Transitional}
use Rattle.pur_modules.specs.Contents.{content_held, is_excluded, is_empty_element}
use Rattle.pur_modules.specs.Expressions.{is_letter, child_letters, has_text_letter}
use Rattle.pur_modules.specs.Groups.{is_among, inline, misc}
use Rattle.pur_modules.proofs.AmongLaws.{among-passes}
use Rattle.pur_modules.specs.Wrappers.{is_running, is_cell, wrapper_for, wrapper_of, if_it_holds}
use Rattle.pur_wellform.specs.Closing.{formatting, is_formatting}

pub left_of : (a b : Bool) → (a && b) ≡ true → a ≡ true
left_of true b h = refl
left_of false b h = h

pub right_of : (a b : Bool) → (a && b) ≡ true → b ≡ true
right_of true b h = h
right_of false b h = absurd (cc)

pub both : {a b : Bool} → a ≡ true → b ≡ true → (a && b) ≡ true
both p q = rw p q

pub neither_left : (a b : Bool) → (a || b) ≡ false → a ≡ false
neither_left true b h = h
neither_left false b h = refl

pub neither_right : (a b : Bool) → (a || b) ≡ false → b ≡ false
neither_right true b h = absurd (cc)
neither_right false b h = h

pub from_not : (b : Bool) → not b ≡ true → b ≡ false
from_not true h = absurd (cc)
from_not false h = refl

-- formatting holds inline content, excludes nothing and isn't EMPTY
is_inline_content : Content → Bool
is_inline_content Inline = true
is_inline_content content = false

from_inline : (content : Content) → is_inline_content content ≡ true → content ≡ Inline
unfolding is_inline_content
from_inline Inline h = refl
from_inline content h = absurd (cc)

pub formatting_holds : (doctype : Doctype) (content : Content) (e : Element) → is_formatting e ≡ true
    → content_held doctype e content ≡ Inline
unfolding content_held is_inline_content
formatting_holds doctype content e h =
    from_inline (content_held doctype e content) (among-passes (λ x. is_inline_content (content_held doctype x content)) formatting e refl h)

pub formatting_excludes : (e x : Element) → is_formatting e ≡ true → is_excluded e x ≡ false
formatting_excludes e x h = from_not (is_excluded e x) (among-passes (λ y. not (is_excluded y x)) formatting e refl h)

pub formatting_is_full : (e : Element) → is_formatting e ≡ true → is_empty_element e ≡ false
formatting_is_full e h = from_not (is_empty_element e) (among-passes (λ y. not (is_empty_element y)) formatting e refl h)

-- inline content has text and each inline element for a letter
children_of_inline : (doctype : Doctype) → child_letters doctype Inline ≡ inline doctype
unfolding child_letters
children_of_inline Strict = refl
children_of_inline Transitional = refl

pub running_is_letter : (doctype : Doctype) (e : Element) → is_running doctype (Elem e) ≡ true → is_letter doctype Inline (Elem e) ≡ true
running_is_letter doctype e h =
    ap (λ es. is_among es e) (children_of_inline doctype) ∙ left_of (is_among (inline doctype) e) (not (is_among misc e)) h

pub text_is_letter : (doctype : Doctype) → is_letter doctype Inline Text ≡ true
unfolding has_text_letter
text_is_letter doctype = refl

-- an inline element is no row
inline_has_no_row : (doctype : Doctype) → list_all (λ x. not (same_element x Tr)) (inline doctype) ≡ true
inline_has_no_row Strict = refl
inline_has_no_row Transitional = refl

pub running_is_no_row : (doctype : Doctype) (e : Element) → is_running doctype (Elem e) ≡ true → same_element e Tr ≡ false
running_is_no_row doctype e h =
    from_not (same_element e Tr)
    (among-passes (λ x. not (same_element x Tr)) (inline doctype) e (inline_has_no_row doctype)
    (left_of (is_among (inline doctype) e) (not (is_among misc e)) h))

-- the wrappers
abbrev pub wrappers : List Element
wrappers = Li ∷ Dd ∷ Tr ∷ OptionItem ∷ P ∷ []

-- what is known of an implied wrapper
pub record Wraps (doctype : Doctype) (content : Content) (child : Child) (wrapper : Element) : Type 0 where
  pub letter : is_letter doctype content (Elem wrapper) ≡ true
  pub holds : is_letter doctype (content_held doctype wrapper content) child ≡ true
  pub kind : is_among wrappers wrapper ≡ true

-- whether a content allows one of the wrappers
abbrev is_fit : Doctype → Content → Element → Bool
is_fit doctype content wrapper = is_letter doctype content (Elem wrapper) && is_among wrappers wrapper

fit_if : (doctype : Doctype) (content : Content) (w v : Element) (b : Bool) → is_fit doctype content w ≡ true
    → (if b then Some w else None) ≡ Some v → is_fit doctype content v ≡ true
fit_if doctype content w v true fit h = subst (λ x. is_fit doctype content x ≡ true) (let e : w ≡ v = cc in e) fit
fit_if doctype content w v false fit h = absurd (cc)

wrapper_is_fit : (doctype : Doctype) (content : Content) (child : Child) (v : Element) → wrapper_for doctype content child ≡ Some v
    → is_fit doctype content v ≡ true
unfolding child_letters
wrapper_is_fit doctype Items child v h = fit_if doctype Items Li v true refl h
wrapper_is_fit doctype Pairs child v h = fit_if doctype Pairs Dd v true refl h
wrapper_is_fit doctype TableParts child v h = fit_if doctype TableParts Tr v (is_cell child) refl h
wrapper_is_fit doctype Rows child v h = fit_if doctype Rows Tr v (is_cell child) refl h
wrapper_is_fit doctype Options Text v h = fit_if doctype Options OptionItem v true refl h
wrapper_is_fit doctype OptionItems Text v h = fit_if doctype OptionItems OptionItem v true refl h
wrapper_is_fit Strict Block child v h = fit_if Strict Block P v (is_running Strict child) refl h
wrapper_is_fit doctype content child v h = absurd (cc)

pub wrapper_wraps : (doctype : Doctype) (content : Content) (child : Child) (w : Element) → wrapper_of doctype content child ≡ Some w
    → Wraps doctype content child w
unfolding wrapper_of
wrapper_wraps doctype content child w h = go (wrapper_for doctype content child) refl h
  where
    held : (v : Element) (b : Bool) → wrapper_for doctype content child ≡ Some v → is_letter doctype (content_held doctype v content) child ≡ b
        → (if b then Some v else None) ≡ Some w → Wraps doctype content child w
    held v true q l e =
        let fit = wrapper_is_fit doctype content child v q in
        let same : v ≡ w = cc in
        subst (Wraps doctype content child) same (record {
          letter = left_of (is_letter doctype content (Elem v)) (is_among wrappers v) fit;
          holds = l;
          kind = right_of (is_letter doctype content (Elem v)) (is_among wrappers v) fit;
        })
    held v false q l e = absurd (cc)

    go : (found : Option Element) → wrapper_for doctype content child ≡ found → if_it_holds doctype content child found ≡ Some w
        → Wraps doctype content child w
    go None q e = absurd (cc)
    go (Some v) q e = held v (is_letter doctype (content_held doctype v content) child) q refl e

-- nothing excludes a wrapper, and a wrapper excludes nothing and isn't EMPTY
none_excludes : (outer : Element) → list_all (λ x. not (is_excluded outer x)) wrappers ≡ true
none_excludes A = refl
none_excludes Pre = refl
none_excludes Form = refl
none_excludes Label = refl
none_excludes Button = refl
none_excludes outer = refl

pub wrapper_is_free : (outer w : Element) → is_among wrappers w ≡ true → is_excluded outer w ≡ false
wrapper_is_free outer w h = from_not (is_excluded outer w) (among-passes (λ x. not (is_excluded outer x)) wrappers w (none_excludes outer) h)

pub wrapper_excludes : (w x : Element) → is_among wrappers w ≡ true → is_excluded w x ≡ false
wrapper_excludes w x h = from_not (is_excluded w x) (among-passes (λ y. not (is_excluded y x)) wrappers w refl h)

pub wrapper_is_full : (w : Element) → is_among wrappers w ≡ true → is_empty_element w ≡ false
wrapper_is_full w h = from_not (is_empty_element w) (among-passes (λ y. not (is_empty_element y)) wrappers w refl h)
