-- What becomes of the attributes of one element.
use Rattle.std.proofs.Common.{◌≡◌, ◌≤◌, ℕ, Bool, true, false, not, ◌&&◌, ◌||◌, cond, List, [], ◌∷◌, length, take, map, Option, Some, None, refl, sym, ap, ◌∙◌, arith}
use Rattle.std.specs.Prelude.{codes, is_some, encode_utf8_all}
use Rattle.std.specs.List.{list_all, filter_map}
use Rattle.std.specs.Option.{option_and_then, option_map, option_map_or, option_or}
use Rattle.std.proofs.lemmas.Bool.{and_parts, and_from, cond-true}
use Rattle.pur_laws.proofs.Lists.{all-filter, all-weaker}
use Rattle.pur_text.specs.Characters.{is_allowed}
use Rattle.pur_names.specs.Elements.{same_element}
use Rattle.pur_names.specs.declared.attributes.Attr.TheVariants.{Id, Src}
use Rattle.pur_names.specs.declared.elements.Element.{Element}
use Rattle.pur_names.specs.declared.elements.Element.TheVariants.{Bdo, Form, Img, Optgroup, Textarea}
use Rattle.pur_names.proofs.AttrLaws.{attr_named-name}
use Rattle.pur_settings.specs.Rules.{Rules, permits_attribute}
use Rattle.pur_values.specs.Tokens.{is_id}
use Rattle.pur_values.proofs.AllowedLemmas.{id-allowed}
use Rattle.pur_attrlist.specs.Attributes.{Attribute, is_same_text, has_name, value_of, with_value, with_new}
use Rattle.pur_attrlist.proofs.TextLaws.{same_text, is_same_text-refl}
use Rattle.pur_tree.specs.Nodes.{PlainElem, plain_elem}
use Rattle.pur_tree.specs.Spelling.{has_allowed_values, is_spellable_attribute}
use Rattle.pur_uri.specs.Laws.{is_canonical_byte}
use Rattle.pur_uri.specs.Uris.{PlainUri, uri_of, uri_text}
use Rattle.pur_uripolicy.specs.HostRules.{PlainHostRule}
use Rattle.pur_uripolicy.specs.declared.uses.UriUse.TheVariants.{Embed}
use Rattle.pur_uripolicy.specs.Admissible.{uri_under, has_source}
use Rattle.pur_validity.specs.Attributes.{is_canonical, is_valid_attribute, has_valid_values, has_required, are_alike, has_one_language, ids_in, value_on}
use Rattle.pur_attrs.specs.Ids.{with_id}
use Rattle.pur_attrs.specs.Steps.{kept_attribute, kept_attributes, with_style_in, with_name_as_id, language_told, with_language, last_segment, source_name, with_required, completed_attributes}
use Rattle.pur_attrs.proofs.FirstLemmas.{somes, passes}
use Rattle.pur_attrs.proofs.PairLemmas.{value_of-with_same, value_of-with_other, value_of-without_same, value_of-new_other, has_name-new, has_name-new_other, has_name-with_value, has_name-without_other, all-with_value, all-new, all-value_of, all-filter_where, filter_map-same, found-read, with_value-same, new-same}
use Rattle.pur_attrs.proofs.SegmentLemmas.{path-characters, segment-characters}
use Rattle.pur_attrs.proofs.StepLemmas.{allowed-named, allowed-styled, source-named, picture-styled, named-same, styled-same}
use Rattle.pur_attrs.proofs.ValueLemmas.{Readings, valid-named, kept-name, kept-fine, valid-kept, id-canonical, canonical-id, languages-valid, required-permitted, direction-valid, label-valid, rows-valid, cols-valid, action-valid, alt-valid, bytes-allowed}

-- ---- what is kept is valid, and may stand in a tag

abbrev both : Rules → PlainHostRule → Element → Attribute → Bool
both rules rule element pair = is_valid_attribute rules rule element pair && is_spellable_attribute pair

-- whether each attribute is valid, and may stand in a tag
abbrev pub is_fine : Rules → PlainHostRule → PlainElem → Bool
is_fine rules rule e = list_all (both rules rule e.name) e.attrs

pub fine-valid : (rules : Rules) (rule : PlainHostRule) (e : PlainElem) → is_fine rules rule e ≡ true → has_valid_values rules rule e ≡ true
fine-valid rules rule e fine =
    all-weaker (both rules rule e.name) (is_valid_attribute rules rule e.name)
    (λ pair is. (and_parts (is_valid_attribute rules rule e.name pair) (is_spellable_attribute pair) is).0) e.attrs fine

pub fine-spellable : (rules : Rules) (rule : PlainHostRule) (e : PlainElem) → is_fine rules rule e ≡ true → list_all is_spellable_attribute e.attrs ≡ true
fine-spellable rules rule e fine =
    all-weaker (both rules rule e.name) is_spellable_attribute
    (λ pair is. (and_parts (is_valid_attribute rules rule e.name pair) (is_spellable_attribute pair) is).1) e.attrs fine

pub fine-kept : Readings → (rules : Rules) (rule : PlainHostRule) (e : PlainElem) → has_allowed_values e.attrs ≡ true
    → is_fine rules rule (plain_elem e.name (kept_attributes rules rule e.name e.attrs)) ≡ true
fine-kept known rules rule e all =
    all-filter_where (kept_attribute rules rule e.name) (λ pair. list_all is_allowed pair.1) (both rules rule e.name) (kept-fine known rules rule e.name)
    (with_style_in rules.doctype e.name (with_name_as_id e.name e.attrs))
    (allowed-styled rules.doctype e.name (with_name_as_id e.name e.attrs) (allowed-named e.name e.attrs all))

-- ---- the source of a picture

-- whether a picture has one
abbrev pub has_src : PlainElem → Bool
has_src e = not (same_element e.name Img) || has_name e.attrs (codes "src")

abbrev pub has_good_source : Rules → PlainHostRule → PlainElem → Bool
has_good_source rules rule e = not (same_element e.name Img) || has_source rules rule e.attrs

source-read : (rules : Rules) (rule : PlainHostRule) (value : List ℕ) (uri : PlainUri) → uri_under rules rule Embed value ≡ Some uri
    → kept_attribute rules rule Img (codes "src", value) ≡ Some (codes "src", uri_text uri)
source-read rules rule value uri is =
    ap (option_and_then (λ attr. cond (permits_attribute rules Img attr) (option_map (λ v. (codes "src", v)) (value_on rules rule Img attr value)) None)) (attr_named-name Src)
    ∙ cond-true _ _ _ (required-permitted rules Img Src refl refl)
    ∙ ap (λ o. option_map (λ v. (codes "src", v)) (option_map uri_text o)) is

source-kept : (rules : Rules) (rule : PlainHostRule) (attrs : List Attribute) → has_source rules rule attrs ≡ true
    → has_name (kept_attributes rules rule Img attrs) (codes "src") ≡ true
source-kept rules rule attrs has = go (value_of attrs (codes "src")) refl has
  where
    pairs : List Attribute
    pairs = with_style_in rules.doctype Img (with_name_as_id Img attrs)

    read : (value : List ℕ) (o : Option PlainUri) → uri_under rules rule Embed value ≡ o → is_some o ≡ true → value_of attrs (codes "src") ≡ Some value
        → has_name (kept_attributes rules rule Img attrs) (codes "src") ≡ true
    read value None e is there = absurd (cc)
    read value (Some uri) e is there =
        found-read (kept_attribute rules rule Img) (kept-name rules rule Img)
        (with_style_in rules.doctype Img (with_name_as_id Img attrs)) (codes "src") value (codes "src", uri_text uri)
        (ap (λ l. value_of l (codes "src")) (picture-styled rules.doctype (with_name_as_id Img attrs)) ∙ source-named attrs ∙ there)
        (source-read rules rule value uri e)

    go : (o : Option (List ℕ)) → value_of attrs (codes "src") ≡ o → is_some (option_and_then (uri_under rules rule Embed) o) ≡ true
        → has_name (kept_attributes rules rule Img attrs) (codes "src") ≡ true
    go None e is = absurd (cc)
    go (Some value) e is = read value (uri_under rules rule Embed value) refl is e

pub kept-src : (rules : Rules) (rule : PlainHostRule) (e : PlainElem) → has_good_source rules rule e ≡ true
    → has_src (plain_elem e.name (kept_attributes rules rule e.name e.attrs)) ≡ true
kept-src rules rule e has = go e.name e.attrs has
  where
    go : (name : Element) (attrs : List Attribute) → (not (same_element name Img) || has_source rules rule attrs) ≡ true
        → (not (same_element name Img) || has_name (kept_attributes rules rule name attrs) (codes "src")) ≡ true
    go Img attrs has = source-kept rules rule attrs has
    go name attrs has = refl

or-weaker : (a b c : Bool) → (b ≡ true → c ≡ true) → (a || b) ≡ true → (a || c) ≡ true
or-weaker true b c weaker is = refl
or-weaker false b c weaker is = weaker is

with_id-src : (told : List (Option (List ℕ))) (attrs : List Attribute) → has_name (with_id told attrs) (codes "src") ≡ has_name attrs (codes "src")
with_id-src [] attrs = refl
with_id-src (None ∷ more) attrs = has_name-without_other attrs (codes "id") (codes "src") refl
with_id-src (Some id ∷ more) attrs = has_name-with_value attrs (codes "id") (codes "src") id refl

pub told-src : (e : PlainElem) (told : List (Option (List ℕ))) → has_src e ≡ true → has_src (plain_elem e.name (with_id told e.attrs)) ≡ true
told-src e told has =
    or-weaker (not (same_element e.name Img)) (has_name e.attrs (codes "src")) (has_name (with_id told e.attrs) (codes "src"))
    (λ there. with_id-src told e.attrs ∙ there) has

-- what it is called
source-characters : Readings → (attrs : List Attribute) → list_all is_canonical_byte (source_name attrs) ≡ true
source-characters known attrs = go (value_of attrs (codes "src"))
  where
    named : (raw : List ℕ) (o : Option PlainUri) → uri_of raw ≡ o → list_all is_canonical_byte (option_map_or (λ uri. last_segment uri.path) o []) ≡ true
    named raw None e = refl
    named raw (Some uri) e = segment-characters uri.path (path-characters uri (known.characters raw uri e))

    go : (o : Option (List ℕ))
        → list_all is_canonical_byte (option_map_or (λ uri. last_segment uri.path) (option_and_then (λ value. uri_of (encode_utf8_all value)) o) []) ≡ true
    go None = refl
    go (Some value) = named (encode_utf8_all value) (uri_of (encode_utf8_all value)) refl

-- ---- ids

-- the id of valid attributes is one
pub valid-id : (rules : Rules) (rule : PlainHostRule) (element : Element) (attrs : List Attribute)
    → list_all (is_valid_attribute rules rule element) attrs ≡ true → list_all is_id (ids_in attrs) ≡ true
valid-id rules rule element attrs valid = go (value_of attrs (codes "id")) refl
  where
    go : (o : Option (List ℕ)) → value_of attrs (codes "id") ≡ o → list_all is_id (option_map_or (λ id. id ∷ []) o []) ≡ true
    go None e = refl
    go (Some id) e =
        let one = all-value_of (is_valid_attribute rules rule element) attrs (codes "id") id valid e in
        let parts = and_parts (permits_attribute rules element Id) (is_canonical rules rule element Id id) (sym (valid-named rules rule element Id id) ∙ one) in
        and_from _ _ (canonical-id rules rule element id parts.1) refl

-- with another id fine attributes stay so
pub id-fine : (rules : Rules) (rule : PlainHostRule) (e : PlainElem) (told : List (Option (List ℕ)))
    → is_fine rules rule e ≡ true → list_all (passes is_id) told ≡ true
    → is_fine rules rule (plain_elem e.name (with_id (take (length (ids_in e.attrs)) told) e.attrs)) ≡ true
id-fine rules rule e told fine all = go (value_of e.attrs (codes "id")) refl told all
  where
    go : (o : Option (List ℕ)) → value_of e.attrs (codes "id") ≡ o → (told : List (Option (List ℕ))) → list_all (passes is_id) told ≡ true
        → is_fine rules rule (plain_elem e.name (with_id (take (length (option_map_or (λ id. id ∷ []) o [])) told) e.attrs)) ≡ true
    go None is told all = fine
    go (Some old) is [] all = fine
    go (Some old) is (None ∷ told) all = all-filter (both rules rule e.name) (λ pair. not (is_same_text (codes "id") pair.0)) e.attrs fine
    go (Some old) is (Some id ∷ told) all =
        let one = all-value_of (is_valid_attribute rules rule e.name) e.attrs (codes "id") old (fine-valid rules rule e fine) is in
        let parts = and_parts (permits_attribute rules e.name Id) (is_canonical rules rule e.name Id old) (sym (valid-named rules rule e.name Id old) ∙ one) in
        let it = (and_parts (is_id id) (list_all (passes is_id) told) all).0 in
        all-with_value (both rules rule e.name) e.attrs (codes "id") id fine
        (and_from _ _ (valid-named rules rule e.name Id id ∙ and_from _ _ parts.0 (id-canonical rules rule e.name id it)) (id-allowed id it))

-- the id is then what is told
pub id-told : (attrs : List Attribute) (told : List (Option (List ℕ))) → length (ids_in attrs) ≤ length told
    → ids_in (with_id (take (length (ids_in attrs)) told) attrs) ≡ somes (take (length (ids_in attrs)) told)
id-told attrs told enough = go (value_of attrs (codes "id")) refl told enough
  where
    go : (o : Option (List ℕ)) → value_of attrs (codes "id") ≡ o → (told : List (Option (List ℕ)))
        → length (option_map_or (λ id. id ∷ []) o []) ≤ length told
        → ids_in (with_id (take (length (option_map_or (λ id. id ∷ []) o [])) told) attrs) ≡ somes (take (length (option_map_or (λ id. id ∷ []) o [])) told)
    go None e told enough = ap (λ o. option_map_or (λ id. id ∷ []) o []) e
    go (Some old) e [] enough = absurd (omega arith)
    go (Some old) e (None ∷ told) enough = ap (λ o. option_map_or (λ id. id ∷ []) o []) (value_of-without_same attrs (codes "id"))
    go (Some old) e (Some id ∷ told) enough = ap (λ o. option_map_or (λ id. id ∷ []) o []) (value_of-with_same attrs (codes "id") id)

-- ---- what is put in

-- a name that is none of those that are put in
record IsOther (name : List ℕ) : Type 0 where
  dir : is_same_text name (codes "dir") ≡ false
  alt : is_same_text name (codes "alt") ≡ false
  action : is_same_text name (codes "action") ≡ false
  label : is_same_text name (codes "label") ≡ false
  rows : is_same_text name (codes "rows") ≡ false
  cols : is_same_text name (codes "cols") ≡ false

other-id : IsOther (codes "id")
other-id = record { dir = refl; alt = refl; action = refl; label = refl; rows = refl; cols = refl }

other-lang : IsOther (codes "lang")
other-lang = record { dir = refl; alt = refl; action = refl; label = refl; rows = refl; cols = refl }

other-xml_lang : IsOther (codes "xml:lang")
other-xml_lang = record { dir = refl; alt = refl; action = refl; label = refl; rows = refl; cols = refl }

required-other : (element : Element) (attrs : List Attribute) (name : List ℕ) → IsOther name
    → value_of (with_required element attrs) name ≡ value_of attrs name
required-other Bdo attrs name other = value_of-new_other attrs (codes "dir") name (codes "ltr") other.dir
required-other Img attrs name other = value_of-new_other attrs (codes "alt") name (source_name attrs) other.alt
required-other Form attrs name other = value_of-new_other attrs (codes "action") name [] other.action
required-other Optgroup attrs name other = value_of-new_other attrs (codes "label") name [] other.label
required-other Textarea attrs name other =
    value_of-new_other (with_new attrs (codes "rows") (codes "4")) (codes "cols") name (codes "40") other.cols
    ∙ value_of-new_other attrs (codes "rows") name (codes "4") other.rows
required-other element attrs name other = refl

pub language-other : (o : Option (List ℕ)) (attrs : List Attribute) (name : List ℕ) → is_same_text name (codes "lang") ≡ false
    → is_same_text name (codes "xml:lang") ≡ false → value_of (with_language o attrs) name ≡ value_of attrs name
language-other None attrs name one two = refl
language-other (Some language) attrs name one two =
    value_of-with_other (with_value attrs (codes "lang") language) (codes "xml:lang") name language two
    ∙ value_of-with_other attrs (codes "lang") name language one

pub completed-id : (element : Element) (attrs : List Attribute) → ids_in (completed_attributes element attrs) ≡ ids_in attrs
completed-id element attrs =
    ap (λ o. option_map_or (λ id. id ∷ []) o [])
    (required-other element (with_language (language_told attrs) attrs) (codes "id") other-id ∙ language-other (language_told attrs) attrs (codes "id") refl refl)

-- both languages are the same
languages-alike : (attrs : List Attribute) (o : Option (List ℕ)) → language_told attrs ≡ o
    → are_alike (value_of (with_language o attrs) (codes "lang")) (value_of (with_language o attrs) (codes "xml:lang")) ≡ true
languages-alike attrs None told = go (value_of attrs (codes "lang")) (value_of attrs (codes "xml:lang")) told
  where
    go : (first second : Option (List ℕ)) → option_or second first ≡ None → are_alike first second ≡ true
    go None None e = refl
    go (Some one) None e = absurd (cc)
    go first (Some two) e = absurd (cc)
languages-alike attrs (Some language) told =
    let inner = with_value attrs (codes "lang") language in
    ap (λ o. are_alike o (value_of (with_value inner (codes "xml:lang") language) (codes "xml:lang")))
    (value_of-with_other inner (codes "xml:lang") (codes "lang") language refl ∙ value_of-with_same attrs (codes "lang") language)
    ∙ ap (are_alike (Some language)) (value_of-with_same inner (codes "xml:lang") language) ∙ is_same_text-refl language

pub completed-language : (e : PlainElem) → has_one_language (plain_elem e.name (completed_attributes e.name e.attrs)) ≡ true
completed-language e =
    let inner = with_language (language_told e.attrs) e.attrs in
    ap (λ o. are_alike o (value_of (with_required e.name inner) (codes "xml:lang"))) (required-other e.name inner (codes "lang") other-lang)
    ∙ ap (are_alike (value_of inner (codes "lang"))) (required-other e.name inner (codes "xml:lang") other-xml_lang)
    ∙ languages-alike e.attrs (language_told e.attrs) refl

-- required ones are there
required-there : (element : Element) (attrs : List Attribute) → has_src (plain_elem element attrs) ≡ true
    → has_required (plain_elem element (with_required element attrs)) ≡ true
required-there Bdo attrs src = and_from _ _ (has_name-new attrs (codes "dir") (codes "ltr")) refl
required-there Img attrs src =
    and_from _ _ (has_name-new_other attrs (codes "alt") (codes "src") (source_name attrs) src)
    (and_from _ _ (has_name-new attrs (codes "alt") (source_name attrs)) refl)
required-there Form attrs src = and_from _ _ (has_name-new attrs (codes "action") []) refl
required-there Optgroup attrs src = and_from _ _ (has_name-new attrs (codes "label") []) refl
required-there Textarea attrs src =
    let rows = with_new attrs (codes "rows") (codes "4") in
    and_from _ _ (has_name-new_other rows (codes "cols") (codes "rows") (codes "40") (has_name-new attrs (codes "rows") (codes "4")))
    (and_from _ _ (has_name-new rows (codes "cols") (codes "40")) refl)
required-there element attrs src = refl

language-src : (o : Option (List ℕ)) (attrs : List Attribute) → has_name (with_language o attrs) (codes "src") ≡ has_name attrs (codes "src")
language-src None attrs = refl
language-src (Some language) attrs =
    has_name-with_value (with_value attrs (codes "lang") language) (codes "xml:lang") (codes "src") language refl
    ∙ has_name-with_value attrs (codes "lang") (codes "src") language refl

pub completed-required : (e : PlainElem) → has_src e ≡ true → has_required (plain_elem e.name (completed_attributes e.name e.attrs)) ≡ true
completed-required e src =
    required-there e.name (with_language (language_told e.attrs) e.attrs)
    (or-weaker (not (same_element e.name Img)) (has_name e.attrs (codes "src")) (has_name (with_language (language_told e.attrs) e.attrs) (codes "src"))
    (λ there. language-src (language_told e.attrs) e.attrs ∙ there) src)

-- and all stay fine
module _ (known : Readings) (rules : Rules) (rule : PlainHostRule) where
  -- what passes for both languages passes for that which is told
  language-passes : (test : Attribute → Bool) → ((value : List ℕ) → test (codes "lang", value) ≡ test (codes "xml:lang", value))
      → (attrs : List Attribute) (language : List ℕ) → list_all test attrs ≡ true → language_told attrs ≡ Some language → test (codes "lang", language) ≡ true
  language-passes test same attrs language all told = go (value_of attrs (codes "xml:lang")) refl told
    where
      go : (o : Option (List ℕ)) → value_of attrs (codes "xml:lang") ≡ o → option_or o (value_of attrs (codes "lang")) ≡ Some language
          → test (codes "lang", language) ≡ true
      go None e found = all-value_of test attrs (codes "lang") language all found
      go (Some other) e found = same language ∙ all-value_of test attrs (codes "xml:lang") language all (e ∙ found)

  languages-fine : (element : Element) (attrs : List Attribute) (o : Option (List ℕ)) → language_told attrs ≡ o
      → is_fine rules rule (plain_elem element attrs) ≡ true → is_fine rules rule (plain_elem element (with_language o attrs)) ≡ true
  languages-fine element attrs None told fine = fine
  languages-fine element attrs (Some language) told fine =
      let same : (value : List ℕ) → both rules rule element (codes "lang", value) ≡ both rules rule element (codes "xml:lang", value) =
      λ value. ap (λ b. b && list_all is_allowed value) (languages-valid rules rule element value) in
      let one = language-passes (both rules rule element) same attrs language fine told in
      all-with_value (both rules rule element) (with_value attrs (codes "lang") language) (codes "xml:lang") language
      (all-with_value (both rules rule element) attrs (codes "lang") language fine one) (sym (same language) ∙ one)

  required-fine : (element : Element) (attrs : List Attribute) → is_fine rules rule (plain_elem element attrs) ≡ true
      → is_fine rules rule (plain_elem element (with_required element attrs)) ≡ true
  required-fine Bdo attrs fine = all-new (both rules rule Bdo) attrs (codes "dir") (codes "ltr") fine (and_from _ _ (direction-valid rules rule) refl)
  required-fine Img attrs fine =
      let name = source-characters known attrs in
      all-new (both rules rule Img) attrs (codes "alt") (source_name attrs) fine
      (and_from _ _ (alt-valid rules rule (source_name attrs) name) (bytes-allowed (source_name attrs) name))
  required-fine Form attrs fine = all-new (both rules rule Form) attrs (codes "action") [] fine (and_from _ _ (action-valid rules rule) refl)
  required-fine Optgroup attrs fine = all-new (both rules rule Optgroup) attrs (codes "label") [] fine (and_from _ _ (label-valid rules rule) refl)
  required-fine Textarea attrs fine =
      all-new (both rules rule Textarea) (with_new attrs (codes "rows") (codes "4")) (codes "cols") (codes "40")
      (all-new (both rules rule Textarea) attrs (codes "rows") (codes "4") fine (and_from _ _ (rows-valid rules rule) refl))
      (and_from _ _ (cols-valid rules rule) refl)
  required-fine element attrs fine = fine

  pub completed-fine : (e : PlainElem) → is_fine rules rule e ≡ true → is_fine rules rule (plain_elem e.name (completed_attributes e.name e.attrs)) ≡ true
  completed-fine e fine =
      required-fine e.name (with_language (language_told e.attrs) e.attrs) (languages-fine e.name e.attrs (language_told e.attrs) refl fine)

-- ---- valid attributes stay as they are

pub kept-same : (rules : Rules) (rule : PlainHostRule) (e : PlainElem) → has_valid_values rules rule e ≡ true → kept_attributes rules rule e.name e.attrs ≡ e.attrs
kept-same rules rule e valid =
    ap (λ l. filter_map (kept_attribute rules rule e.name) (with_style_in rules.doctype e.name l)) (named-same rules rule e.name e.attrs valid)
    ∙ ap (filter_map (kept_attribute rules rule e.name)) (styled-same rules rule e.name e.attrs valid)
    ∙ filter_map-same (kept_attribute rules rule e.name) (is_valid_attribute rules rule e.name) (valid-kept rules rule e.name) e.attrs valid

-- with its own id an element stays as it is
pub own-id : (attrs : List Attribute) → with_id (map Some (ids_in attrs)) attrs ≡ attrs
own-id attrs = go (value_of attrs (codes "id")) refl
  where
    go : (o : Option (List ℕ)) → value_of attrs (codes "id") ≡ o → with_id (map Some (option_map_or (λ id. id ∷ []) o [])) attrs ≡ attrs
    go None e = refl
    go (Some id) e = with_value-same attrs (codes "id") id e

languages-same : (attrs : List Attribute) (first second : Option (List ℕ)) → value_of attrs (codes "lang") ≡ first → value_of attrs (codes "xml:lang") ≡ second
    → are_alike first second ≡ true → with_language (option_or second first) attrs ≡ attrs
languages-same attrs None None a b alike = refl
languages-same attrs None (Some two) a b alike = absurd (cc)
languages-same attrs (Some one) None a b alike = absurd (cc)
languages-same attrs (Some one) (Some two) a b alike =
    ap (λ l. with_value l (codes "xml:lang") two) (with_value-same attrs (codes "lang") two (a ∙ ap Some (same_text one two alike)))
    ∙ with_value-same attrs (codes "xml:lang") two b

required-same : (element : Element) (attrs : List Attribute) → has_required (plain_elem element attrs) ≡ true → with_required element attrs ≡ attrs
required-same Bdo attrs has = new-same attrs (codes "dir") (codes "ltr") (and_parts (has_name attrs (codes "dir")) true has).0
required-same Img attrs has =
    let more = (and_parts (has_name attrs (codes "src")) (has_name attrs (codes "alt") && true) has).1 in
    new-same attrs (codes "alt") (source_name attrs) (and_parts (has_name attrs (codes "alt")) true more).0
required-same Form attrs has = new-same attrs (codes "action") [] (and_parts (has_name attrs (codes "action")) true has).0
required-same Optgroup attrs has = new-same attrs (codes "label") [] (and_parts (has_name attrs (codes "label")) true has).0
required-same Textarea attrs has =
    let sizes = and_parts (has_name attrs (codes "rows")) (has_name attrs (codes "cols") && true) has in
    ap (λ l. with_new l (codes "cols") (codes "40")) (new-same attrs (codes "rows") (codes "4") sizes.0)
    ∙ new-same attrs (codes "cols") (codes "40") (and_parts (has_name attrs (codes "cols")) true sizes.1).0
required-same element attrs has = refl

pub completed-same : (e : PlainElem) → has_required e ≡ true → has_one_language e ≡ true → completed_attributes e.name e.attrs ≡ e.attrs
completed-same e has alike =
    ap (with_required e.name) (languages-same e.attrs (value_of e.attrs (codes "lang")) (value_of e.attrs (codes "xml:lang")) refl refl alike)
    ∙ required-same e.name e.attrs has
