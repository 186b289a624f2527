-- The steps before values are read: what they leave, and where they change nothing.
use Rattle.std.proofs.Common.{◌≡◌, ℕ, Bool, true, false, not, ◌&&◌, ◌||◌, cond, List, [], ◌∷◌, ◌++◌, map, Option, Some, None, refl, sym, ap, ◌∙◌}
use Rattle.std.specs.Prelude.{codes}
use Rattle.std.specs.List.{list_all, list_any}
use Rattle.std.specs.Option.{option_map_or}
use Rattle.std.proofs.lemmas.Bool.{and_parts, and_from, cond-false, not-true}
use Rattle.pur_laws.proofs.Lists.{all-append, all-filter}
use Rattle.pur_text.specs.Characters.{is_allowed}
use Rattle.pur_names.specs.Attributes.{attr_name, same_attr}
use Rattle.pur_names.specs.declared.attributes.Attr.{Attr}
use Rattle.pur_names.specs.declared.attributes.Attr.TheVariants.{Align, Bgcolor, Name, Nowrap}
use Rattle.pur_names.specs.declared.elements.Element.{Element}
use Rattle.pur_names.specs.declared.elements.Element.TheVariants.{A, Img}
use Rattle.pur_names.proofs.ElementLaws.{each_element}
use Rattle.pur_modules.specs.AttributeLists.{attributes_of, required_of}
use Rattle.pur_modules.specs.Groups.{is_among}
use Rattle.pur_modules.specs.declared.kinds.Doctype.{Doctype}
use Rattle.pur_modules.specs.declared.kinds.Doctype.TheVariants.{Strict, Transitional}
use Rattle.pur_settings.specs.Rules.{Rules, permits_attribute, is_listed}
use Rattle.pur_settings.specs.Items.{covers}
use Rattle.pur_attrlist.specs.Attributes.{Attribute, is_same_text, has_name, value_of, without}
use Rattle.pur_attrlist.specs.Styles.{with_style, text_or_none}
use Rattle.pur_attrlist.proofs.AttributeLaws.{without-absent}
use Rattle.pur_attrlist.proofs.TextLaws.{same_text}
use Rattle.pur_tree.specs.Spelling.{has_allowed_values}
use Rattle.pur_uripolicy.specs.HostRules.{PlainHostRule}
use Rattle.pur_validity.specs.Attributes.{is_canonical, is_valid_attribute}
use Rattle.pur_attrs.specs.Steps.{name_as_id, with_name_as_id, styled_by, aligned, colored, cells, style_for, with_style_in}
use Rattle.pur_attrs.proofs.KeepingLemmas.{unnamed, no-name}
use Rattle.pur_attrs.proofs.PairLemmas.{value_of-without_other, all-with_value, all-value_of}
use Rattle.pur_attrs.proofs.ValueLemmas.{valid-named}

-- ---- allowed characters

abbrev allowed : Attribute → Bool
allowed pair = list_all is_allowed pair.1

allowed-as_id : (attrs : List Attribute) → has_allowed_values attrs ≡ true → has_allowed_values (map name_as_id attrs) ≡ true
allowed-as_id [] all = refl
allowed-as_id (pair ∷ attrs) all =
    let parts = and_parts (allowed pair) (has_allowed_values attrs) all in
    and_from _ _ (go (is_same_text (codes "name") pair.0) parts.0) (allowed-as_id attrs parts.1)
  where
    go : (b : Bool) → allowed pair ≡ true → allowed (cond b (codes "id", pair.1) pair) ≡ true
    go true is = is
    go false is = is

pub allowed-named : (element : Element) (attrs : List Attribute) → has_allowed_values attrs ≡ true → has_allowed_values (with_name_as_id element attrs) ≡ true
allowed-named element attrs all = go (is_among (A ∷ Img ∷ []) element) (has_name attrs (codes "id"))
  where
    go : (b c : Bool) → has_allowed_values (cond b (cond c (without attrs (codes "name")) (map name_as_id attrs)) attrs) ≡ true
    go true true = all-filter allowed (λ pair. not (is_same_text (codes "name") pair.0)) attrs all
    go true false = allowed-as_id attrs all
    go false c = all

allowed-value : (attrs : List Attribute) (name : List ℕ) → has_allowed_values attrs ≡ true → list_all is_allowed (text_or_none (value_of attrs name)) ≡ true
allowed-value attrs name all = go (value_of attrs name) refl
  where
    go : (o : Option (List ℕ)) → value_of attrs name ≡ o → list_all is_allowed (text_or_none o) ≡ true
    go None e = refl
    go (Some value) e = all-value_of allowed attrs name value all e

allowed-style : (style : List ℕ) (attrs : List Attribute) → list_all is_allowed style ≡ true → has_allowed_values attrs ≡ true
    → has_allowed_values (with_style style attrs) ≡ true
allowed-style [] attrs may all = all
allowed-style (c ∷ style) attrs may all =
    all-with_value allowed attrs (codes "style") ((c ∷ style) ++ text_or_none (value_of attrs (codes "style"))) all
    (all-append is_allowed (c ∷ style) (text_or_none (value_of attrs (codes "style"))) may (allowed-value attrs (codes "style") all))

-- a declaration of an attribute's value
allowed-styled_by : (elements : List Element) (element : Element) (declared : List ℕ → List ℕ) (attrs : List Attribute) (name : List ℕ)
    → ((value : List ℕ) → list_all is_allowed value ≡ true → list_all is_allowed (declared value) ≡ true) → has_allowed_values attrs ≡ true
    → list_all is_allowed (styled_by elements element declared (value_of attrs name)) ≡ true
allowed-styled_by elements element declared attrs name keeps all = go (is_among elements element) (value_of attrs name) refl
  where
    go : (b : Bool) (o : Option (List ℕ)) → value_of attrs name ≡ o → list_all is_allowed (cond b (option_map_or declared o []) []) ≡ true
    go true None e = refl
    go true (Some value) e = keeps value (all-value_of allowed attrs name value all e)
    go false o e = refl

allowed-declared : (front value : List ℕ) → list_all is_allowed front ≡ true → list_all is_allowed value ≡ true
    → list_all is_allowed (front ++ value ++ codes ";") ≡ true
allowed-declared front value first second = all-append is_allowed (front ++ value) (codes ";") (all-append is_allowed front value first second) refl

allowed-three : (a b c : List ℕ) → list_all is_allowed a ≡ true → list_all is_allowed b ≡ true → list_all is_allowed c ≡ true
    → list_all is_allowed (a ++ b ++ c) ≡ true
allowed-three a b c first second third = all-append is_allowed (a ++ b) c (all-append is_allowed a b first second) third

allowed-style_for : (element : Element) (attrs : List Attribute) → has_allowed_values attrs ≡ true → list_all is_allowed (style_for element attrs) ≡ true
allowed-style_for element attrs all =
    let align : List ℕ → List ℕ = λ value. codes "text-align:" ++ value ++ codes ";" in
    let color : List ℕ → List ℕ = λ value. codes "background-color:" ++ value ++ codes ";" in
    let nowrap : List ℕ → List ℕ = λ value. codes "white-space:nowrap;" in
    allowed-three (styled_by aligned element align (value_of attrs (codes "align")))
    (styled_by colored element color (value_of attrs (codes "bgcolor"))) (styled_by cells element nowrap (value_of attrs (codes "nowrap")))
    (allowed-styled_by aligned element align attrs (codes "align") (λ value may. allowed-declared (codes "text-align:") value refl may) all)
    (allowed-styled_by colored element color attrs (codes "bgcolor") (λ value may. allowed-declared (codes "background-color:") value refl may) all)
    (allowed-styled_by cells element nowrap attrs (codes "nowrap") (λ value may. refl) all)

pub allowed-styled : (doctype : Doctype) (element : Element) (attrs : List Attribute) → has_allowed_values attrs ≡ true
    → has_allowed_values (with_style_in doctype element attrs) ≡ true
allowed-styled Strict element attrs all = allowed-style (style_for element attrs) attrs (allowed-style_for element attrs all) all
allowed-styled Transitional element attrs all = all

-- ---- the source of a picture

source-as_id : (attrs : List Attribute) → value_of (map name_as_id attrs) (codes "src") ≡ value_of attrs (codes "src")
source-as_id [] = refl
source-as_id (pair ∷ attrs) = go (is_same_text (codes "name") pair.0) refl (source-as_id attrs)
  where
    go : (b : Bool) → is_same_text (codes "name") pair.0 ≡ b → value_of (map name_as_id attrs) (codes "src") ≡ value_of attrs (codes "src")
        → value_of (cond b (codes "id", pair.1) pair ∷ map name_as_id attrs) (codes "src") ≡ value_of (pair ∷ attrs) (codes "src")
    go true e rest =
        let isnt : is_same_text (codes "src") pair.0 ≡ false = ap (is_same_text (codes "src")) (sym (same_text (codes "name") pair.0 e)) in
        rest ∙ sym (cond-false _ _ _ isnt)
    go false e rest = ap (cond (is_same_text (codes "src") pair.0) (Some pair.1)) rest

pub source-named : (attrs : List Attribute) → value_of (with_name_as_id Img attrs) (codes "src") ≡ value_of attrs (codes "src")
source-named attrs = go (has_name attrs (codes "id"))
  where
    go : (b : Bool) → value_of (cond b (without attrs (codes "name")) (map name_as_id attrs)) (codes "src") ≡ value_of attrs (codes "src")
    go true = value_of-without_other attrs (codes "name") (codes "src") refl
    go false = source-as_id attrs

pub picture-styled : (doctype : Doctype) (attrs : List Attribute) → with_style_in doctype Img attrs ≡ attrs
picture-styled Strict attrs = refl
picture-styled Transitional attrs = refl

-- ---- where all is valid

-- a valid attribute is declared
valid-declared : (rules : Rules) (rule : PlainHostRule) (element : Element) (attr : Attr) (value : List ℕ)
    → is_valid_attribute rules rule element (attr_name attr, value) ≡ true → list_any (same_attr attr) (attributes_of rules.doctype element) ≡ true
valid-declared rules rule element attr value is =
    let permits = (and_parts (permits_attribute rules element attr) (is_canonical rules rule element attr value) (sym (valid-named rules rule element attr value) ∙ is)).0 in
    let front = (and_parts _ _ permits).0 in
    (and_parts (list_any (same_attr attr) (attributes_of rules.doctype element)) (is_listed rules.attributes rules.denied_attributes (covers element attr) || list_any (same_attr attr) (required_of element)) front).0

-- so one that isn't declared is absent
absent : (rules : Rules) (rule : PlainHostRule) (element : Element) (attrs : List Attribute) (attr : Attr)
    → list_all (is_valid_attribute rules rule element) attrs ≡ true → list_any (same_attr attr) (attributes_of rules.doctype element) ≡ false
    → value_of attrs (attr_name attr) ≡ None
absent rules rule element attrs attr valid isnt = go (value_of attrs (attr_name attr)) refl
  where
    go : (o : Option (List ℕ)) → value_of attrs (attr_name attr) ≡ o → o ≡ None
    go None e = refl
    go (Some value) e =
        let one = all-value_of (is_valid_attribute rules rule element) attrs (attr_name attr) value valid e in
        let is = valid-declared rules rule element attr value one in
        absurd (cc)

-- no element has a `name`
name-undeclared : (doctype : Doctype) (element : Element) → list_any (same_attr Name) (attributes_of doctype element) ≡ false
unfolding attributes_of
name-undeclared Strict element = not-true _ (each_element (λ e. not (list_any (same_attr Name) (attributes_of Strict e))) refl element)
name-undeclared Transitional element = not-true _ (each_element (λ e. not (list_any (same_attr Name) (attributes_of Transitional e))) refl element)

pub named-same : (rules : Rules) (rule : PlainHostRule) (element : Element) (attrs : List Attribute) → list_all (is_valid_attribute rules rule element) attrs ≡ true
    → with_name_as_id element attrs ≡ attrs
named-same rules rule element attrs valid = go (is_among (A ∷ Img ∷ []) element) (has_name attrs (codes "id"))
  where
    none : has_name attrs (codes "name") ≡ false
    none = unnamed attrs (codes "name") (absent rules rule element attrs Name valid (name-undeclared rules.doctype element))

    go : (b c : Bool) → cond b (cond c (without attrs (codes "name")) (map name_as_id attrs)) attrs ≡ attrs
    go true true = without-absent attrs (codes "name") none
    go true false = no-name attrs none
    go false c = refl

-- in Strict no element of these has the attribute
undeclared : (elements : List Element) (attr : Attr)
    → ((element : Element) → not (is_among elements element && list_any (same_attr attr) (attributes_of Strict element)) ≡ true)
    → (rules : Rules) (rule : PlainHostRule) (element : Element) (attrs : List Attribute) (declared : List ℕ → List ℕ) → rules.doctype ≡ Strict
    → list_all (is_valid_attribute rules rule element) attrs ≡ true → styled_by elements element declared (value_of attrs (attr_name attr)) ≡ []
undeclared elements attr none rules rule element attrs declared strict valid = go (is_among elements element) (none element)
  where
    go : (b : Bool) → not (b && list_any (same_attr attr) (attributes_of Strict element)) ≡ true
        → cond b (option_map_or declared (value_of attrs (attr_name attr)) []) [] ≡ []
    go true isnt =
        let here : list_any (same_attr attr) (attributes_of rules.doctype element) ≡ false =
        ap (λ d. list_any (same_attr attr) (attributes_of d element)) strict ∙ not-true _ isnt in
        ap (λ o. option_map_or declared o []) (absent rules rule element attrs attr valid here)
    go false isnt = refl

align-undeclared : (element : Element) → not (is_among aligned element && list_any (same_attr Align) (attributes_of Strict element)) ≡ true
unfolding attributes_of
align-undeclared = each_element (λ e. not (is_among aligned e && list_any (same_attr Align) (attributes_of Strict e))) refl

bgcolor-undeclared : (element : Element) → not (is_among colored element && list_any (same_attr Bgcolor) (attributes_of Strict element)) ≡ true
unfolding attributes_of
bgcolor-undeclared = each_element (λ e. not (is_among colored e && list_any (same_attr Bgcolor) (attributes_of Strict e))) refl

nowrap-undeclared : (element : Element) → not (is_among cells element && list_any (same_attr Nowrap) (attributes_of Strict element)) ≡ true
unfolding attributes_of
nowrap-undeclared = each_element (λ e. not (is_among cells e && list_any (same_attr Nowrap) (attributes_of Strict e))) refl

pub styled-same : (rules : Rules) (rule : PlainHostRule) (element : Element) (attrs : List Attribute) → list_all (is_valid_attribute rules rule element) attrs ≡ true
    → with_style_in rules.doctype element attrs ≡ attrs
styled-same rules rule element attrs valid = go rules.doctype refl
  where
    three : {a b c : List ℕ} → a ≡ [] → b ≡ [] → c ≡ [] → (a ++ b ++ c) ≡ []
    three {a} {b} {c} p q r = ap (λ l. l ++ b ++ c) p ∙ ap (λ l. l ++ c) q ∙ r

    go : (doctype : Doctype) → rules.doctype ≡ doctype → with_style_in doctype element attrs ≡ attrs
    go Strict e =
        ap (λ style. with_style style attrs)
        (three (undeclared aligned Align align-undeclared rules rule element attrs _ e valid)
        (undeclared colored Bgcolor bgcolor-undeclared rules rule element attrs _ e valid)
        (undeclared cells Nowrap nowrap-undeclared rules rule element attrs _ e valid))
    go Transitional e = refl
