-- The names of each element's attributes stay distinct.
use Rattle.std.proofs.Common.{◌≡◌, ℕ, Bool, true, false, ◌&&◌, cond, List, [], ◌∷◌, drop, length, take, map, Option, Some, None, refl}
use Rattle.std.specs.Prelude.{codes}
use Rattle.std.proofs.lemmas.Bool.{and_parts, and_from}
use Rattle.pur_laws.proofs.Truth.{either}
use Rattle.pur_names.specs.declared.elements.Element.{Element}
use Rattle.pur_names.specs.declared.elements.Element.TheVariants.{A, Bdo, Form, Img, Optgroup, Textarea}
use Rattle.pur_modules.specs.declared.kinds.Doctype.{Doctype}
use Rattle.pur_modules.specs.declared.kinds.Doctype.TheVariants.{Strict, Transitional}
use Rattle.pur_modules.specs.Groups.{is_among}
use Rattle.pur_settings.specs.Rules.{Rules}
use Rattle.pur_attrlist.specs.Attributes.{Attribute, has_name, is_distinct, with_new, with_value, without}
use Rattle.pur_attrlist.proofs.AttributeLaws.{is_distinct-without}
use Rattle.pur_attrlist.proofs.DistinctLaws.{is_distinct-with_value, is_distinct-with_new, is_distinct-with_style}
use Rattle.pur_tree.specs.Nodes.{Nodes, no_nodes, text_first, elem_first}
use Rattle.pur_tree.specs.Spelling.{has_distinct_names}
use Rattle.pur_uripolicy.specs.HostRules.{PlainHostRule}
use Rattle.pur_validity.specs.Attributes.{ids_in, ids_of}
use Rattle.pur_attrs.specs.Attributes.{with_changed_attributes, with_valid_attributes}
use Rattle.pur_attrs.specs.Ids.{with_id, with_ids, ids_kept}
use Rattle.pur_attrs.specs.Laws.{KeepsDistinct}
use Rattle.pur_attrs.specs.Steps.{name_as_id, with_name_as_id, style_for, with_style_in, kept_attribute, kept_attributes, language_told, with_language, source_name, with_required, completed_attributes}
use Rattle.pur_attrs.proofs.KeepingLemmas.{distinct-as_id, distinct-left}
use Rattle.pur_attrs.proofs.ValueLemmas.{kept-name}

-- ---- one element

named-apart : (element : Element) (attrs : List Attribute) → is_distinct attrs ≡ true → is_distinct (with_name_as_id element attrs) ≡ true
named-apart element attrs apart =
    either (λ (l : List Attribute). is_distinct l ≡ true) (is_among (A ∷ Img ∷ []) element) _ _ (go (has_name attrs (codes "id")) refl) apart
  where
    go : (b : Bool) → has_name attrs (codes "id") ≡ b → is_distinct (cond b (without attrs (codes "name")) (map name_as_id attrs)) ≡ true
    go true e = is_distinct-without attrs (codes "name") apart
    go false e = distinct-as_id attrs e apart

styled-apart : (doctype : Doctype) (element : Element) (attrs : List Attribute) → is_distinct attrs ≡ true → is_distinct (with_style_in doctype element attrs) ≡ true
styled-apart Strict element attrs apart = is_distinct-with_style (style_for element attrs) attrs apart
styled-apart Transitional element attrs apart = apart

kept-apart : (rules : Rules) (rule : PlainHostRule) (element : Element) (attrs : List Attribute) → is_distinct attrs ≡ true
    → is_distinct (kept_attributes rules rule element attrs) ≡ true
kept-apart rules rule element attrs apart =
    distinct-left (kept_attribute rules rule element) (kept-name rules rule element)
    (with_style_in rules.doctype element (with_name_as_id element attrs))
    (styled-apart rules.doctype element (with_name_as_id element attrs) (named-apart element attrs apart))

told-apart : (told : Option (List ℕ)) (attrs : List Attribute) → is_distinct attrs ≡ true → is_distinct (with_language told attrs) ≡ true
told-apart None attrs apart = apart
told-apart (Some language) attrs apart =
    is_distinct-with_value (with_value attrs (codes "lang") language) (codes "xml:lang") language
    (is_distinct-with_value attrs (codes "lang") language apart)

required-apart : (element : Element) (attrs : List Attribute) → is_distinct attrs ≡ true → is_distinct (with_required element attrs) ≡ true
required-apart Bdo attrs apart = is_distinct-with_new attrs (codes "dir") (codes "ltr") apart
required-apart Img attrs apart = is_distinct-with_new attrs (codes "alt") (source_name attrs) apart
required-apart Form attrs apart = is_distinct-with_new attrs (codes "action") [] apart
required-apart Optgroup attrs apart = is_distinct-with_new attrs (codes "label") [] apart
required-apart Textarea attrs apart =
    is_distinct-with_new (with_new attrs (codes "rows") (codes "4")) (codes "cols") (codes "40") (is_distinct-with_new attrs (codes "rows") (codes "4") apart)
required-apart element attrs apart = apart

completed-apart : (element : Element) (attrs : List Attribute) → is_distinct attrs ≡ true → is_distinct (completed_attributes element attrs) ≡ true
completed-apart element attrs apart =
    required-apart element (with_language (language_told attrs) attrs) (told-apart (language_told attrs) attrs apart)

id-apart : (told : List (Option (List ℕ))) (attrs : List Attribute) → is_distinct attrs ≡ true → is_distinct (with_id told attrs) ≡ true
id-apart [] attrs apart = apart
id-apart (None ∷ more) attrs apart = is_distinct-without attrs (codes "id") apart
id-apart (Some id ∷ more) attrs apart = is_distinct-with_value attrs (codes "id") id apart

-- ---- all elements

record Apart (attrs : List Attribute) (kids rest : Nodes) : Type 0 where
  here : is_distinct attrs ≡ true
  below : has_distinct_names kids ≡ true
  behind : has_distinct_names rest ≡ true

parts : (attrs : List Attribute) (kids rest : Nodes) → (is_distinct attrs && (has_distinct_names kids && has_distinct_names rest)) ≡ true → Apart attrs kids rest
parts attrs kids rest all =
    let here = and_parts (is_distinct attrs) (has_distinct_names kids && has_distinct_names rest) all in
    let others = and_parts (has_distinct_names kids) (has_distinct_names rest) here.1 in
    record { here = here.0; below = others.0; behind = others.1 }

changed-apart : (changed : Element → List Attribute → List Attribute)
    → ((element : Element) (attrs : List Attribute) → is_distinct attrs ≡ true → is_distinct (changed element attrs) ≡ true)
    → (nodes : Nodes) → has_distinct_names nodes ≡ true → has_distinct_names (with_changed_attributes changed nodes) ≡ true
changed-apart changed keeps no_nodes all = refl
changed-apart changed keeps (text_first s rest) all = changed-apart changed keeps rest all
changed-apart changed keeps (elem_first e kids rest) all =
    let apart = parts e.attrs kids rest all in
    and_from _ _ (keeps e.name e.attrs apart.here)
    (and_from _ _ (changed-apart changed keeps kids apart.below) (changed-apart changed keeps rest apart.behind))

ids-apart : (told : List (Option (List ℕ))) (nodes : Nodes) → has_distinct_names nodes ≡ true → has_distinct_names (with_ids told nodes) ≡ true
ids-apart told no_nodes all = refl
ids-apart told (text_first s rest) all = ids-apart told rest all
ids-apart told (elem_first e kids rest) all =
    let apart = parts e.attrs kids rest all in
    let own = length (ids_in e.attrs) in
    let below = length (ids_of kids) in
    and_from _ _ (id-apart (take own told) e.attrs apart.here)
    (and_from _ _ (ids-apart (take below (drop own told)) kids apart.below) (ids-apart (drop below (drop own told)) rest apart.behind))

pub valid-distinct : KeepsDistinct
valid-distinct rules rule nodes all =
    let left = with_changed_attributes (kept_attributes rules rule) nodes in
    let told = ids_kept rules.id_prefix (ids_of left) in
    changed-apart completed_attributes completed-apart (with_ids told left)
    (ids-apart told left (changed-apart (kept_attributes rules rule) (kept-apart rules rule) nodes all))
