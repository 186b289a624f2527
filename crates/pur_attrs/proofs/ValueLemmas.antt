-- Which attributes are valid: what is kept is, an id with a prefix, both languages, and a direction.
use Rattle.std.proofs.Common.{◌≡◌, ℕ, ◌^◌, Bool, true, false, not, ◌&&◌, ◌||◌, cond, nat_le, nat_lt, List, [], ◌∷◌, ◌++◌, map, Option, Some, None, refl, sym, ap, subst, ◌∙◌, arith}
use mathlib.Core.Bool.{beq}
use Rattle.std.specs.Prelude.{codes, encode_utf8_all}
use Rattle.std.specs.List.{find, list_all, list_any}
use Rattle.std.specs.Fmt.{digits}
use Rattle.std.specs.Str.{bytes_eq}
use Rattle.std.specs.Option.{option_and_then, option_map, option_map_or}
use Rattle.std.proofs.lemmas.Bool.{and_parts, and_from, cond-true, leb-true, ltb-true}
use Rattle.std.proofs.lemmas.Bool.Decides.{nat_tests}
use Rattle.std.proofs.lemmas.Option.{option_and_then_some, same_Some}
use Rattle.std.proofs.lemmas.Str.{chars-encodes}
use Rattle.pur_laws.proofs.Lists.{all-append, all-weaker, any-same}
use Rattle.pur_laws.proofs.Tests.{kept}
use Rattle.pur_laws.proofs.Truth.{same_truth, or_true}
use Rattle.pur_text.specs.Characters.{is_allowed}
use Rattle.pur_text.specs.Trimming.{trimmed}
use Rattle.pur_text.proofs.CleaningLemmas.{allowed_scalars}
use Rattle.pur_names.specs.Attributes.{attr_name, attr_named, same_attr, all_attrs}
use Rattle.pur_names.specs.Elements.{all_elements, element_rank}
use Rattle.pur_names.specs.declared.attributes.Attr.{Attr}
use Rattle.pur_names.specs.declared.attributes.Attr.TheVariants.{Action, Alt, Cite, Cols, Dir, Href, Id, Label, Lang, Longdesc, Rows, Src, Style, XmlLang}
use Rattle.pur_names.specs.declared.elements.Element.{Element}
use Rattle.pur_names.specs.declared.elements.Element.TheVariants.{Bdo, Form, Img, Optgroup, Textarea}
use Rattle.pur_names.proofs.AttrLaws.{attr_named-name, each_attr}
use Rattle.pur_names.proofs.ElementLaws.{each_element, all_elements-rank}
use Rattle.pur_modules.specs.AttributeLists.{attributes_of, required_of}
use Rattle.pur_modules.specs.declared.kinds.Doctype.{Doctype}
use Rattle.pur_modules.specs.declared.kinds.Doctype.TheVariants.{Strict, Transitional}
use Rattle.pur_settings.specs.Prefixes.{begins_an_id, is_id_byte}
use Rattle.pur_settings.specs.Rules.{Rules, permits_attribute, is_listed}
use Rattle.pur_settings.specs.Items.{covers}
use Rattle.pur_settings.proofs.ItemLemmas.{languages-covered}
use Rattle.pur_values.specs.Kinds.{kind_of, is_declared}
use Rattle.pur_values.specs.Numbers.{numeral}
use Rattle.pur_values.specs.Laws.{AreAllowed, ReadAsItself, IsSound}
use Rattle.pur_values.specs.Tokens.{is_id, is_id_character}
use Rattle.pur_values.specs.Words.{is_letter, kept_where}
use Rattle.pur_values.specs.Values.{spaced, value_of}
use Rattle.pur_values.specs.declared.kinds.ValueKind.{ValueKind}
use Rattle.pur_values.specs.declared.kinds.ValueKind.TheVariants as kind
use Rattle.pur_values.proofs.SolidLemmas.{id-solid}
use Rattle.pur_values.proofs.TableLemmas.{agree_at}
use Rattle.pur_values.proofs.TightLemmas.{solid-tight}
use Rattle.pur_attrlist.specs.Attributes.{Attribute, is_same_text}
use Rattle.pur_attrlist.proofs.TextLaws.{same_text, is_same_text-refl}
use Rattle.pur_tree.specs.Spelling.{is_attr_name, is_spellable_attribute}
use Rattle.pur_uri.specs.Escapes.{stays_in_path, stays_in_query, normalised}
use Rattle.pur_uri.specs.Laws.{is_canonical_byte}
use Rattle.pur_uri.specs.Splitting.{tidied, has_scheme, scheme_part, behind_scheme, has_authority, authority_part, behind_authority, query_part, behind_query, fragment_part, parts_of}
use Rattle.pur_uri.specs.Uris.{PlainUri, fits, has_reading, reading_of, uri_of_parts, uri_of, uri_text}
use Rattle.pur_uripolicy.specs.HostRules.{PlainHostRule, admits}
use Rattle.pur_uripolicy.specs.declared.uses.UriUse.{UriUse}
use Rattle.pur_uripolicy.specs.declared.uses.UriUse.TheVariants.{Embed, Link}
use Rattle.pur_uripolicy.specs.Admissible.{is_fit, uri_under}
use Rattle.pur_uripolicy.specs.Laws.{ReadAgain, UrisAreAllowed}
use Rattle.pur_cssprops.specs.Laws.{StyleReadAsItself}
use Rattle.pur_cssprops.specs.Styles.{style_read}
use Rattle.pur_validity.specs.Attributes.{uri_on, value_on, is_canonical, is_valid_attribute, has_prefix}
use Rattle.pur_attrs.specs.Ids.{with_prefix}
use Rattle.pur_attrs.specs.Steps.{kept_attribute}

-- ---- values that are their own readings

module _ (rules : Rules) (rule : PlainHostRule) where
  pub canonical-reading : (element : Element) (attr : Attr) (value : List ℕ) → is_canonical rules rule element attr value ≡ true
      → value_on rules rule element attr value ≡ Some value
  canonical-reading element attr value is = go (value_on rules rule element attr value) is
    where
      go : (o : Option (List ℕ)) → option_map_or (is_same_text value) o false ≡ true → o ≡ Some value
      go None h = absurd (cc)
      go (Some read) h = ap Some (sym (same_text value read h))

  pub reading-canonical : (element : Element) (attr : Attr) (value : List ℕ) → value_on rules rule element attr value ≡ Some value
      → is_canonical rules rule element attr value ≡ true
  reading-canonical element attr value is = ap (λ o. option_map_or (is_same_text value) o false) is ∙ is_same_text-refl value

  -- the attribute of a name is valid where it is permitted, and the value its own reading
  pub valid-named : (element : Element) (attr : Attr) (value : List ℕ)
      → is_valid_attribute rules rule element (attr_name attr, value) ≡ (permits_attribute rules element attr && is_canonical rules rule element attr value)
  valid-named element attr value =
      ap (λ o. option_map_or (λ a. permits_attribute rules element a && is_canonical rules rule element a value) o false) (attr_named-name attr)

-- ---- what is kept

abbrev is_sound_kind : Option ValueKind → Bool
is_sound_kind (Some (kind.Number least most)) = nat_le least most && nat_lt most (2 ^ 32)
is_sound_kind other = true

sound-kind : (k : ValueKind) → is_sound_kind (Some k) ≡ true → IsSound k
sound-kind (kind.Number least most) is =
    let parts = and_parts (nat_le least most) (nat_lt most (2 ^ 32)) is in
    (leb-true least most parts.0, ltb-true most (2 ^ 32) parts.1)
sound-kind kind.Text is = tt
sound-kind kind.Id is = tt
sound-kind kind.Class is = tt
sound-kind kind.Lang is = tt
sound-kind kind.Pixels is = tt
sound-kind kind.Length is = tt
sound-kind kind.MultiLength is = tt
sound-kind kind.Color is = tt
sound-kind (kind.Keyword element attr) is = tt
sound-kind (kind.Flag attr) is = tt
sound-kind kind.BulletType is = tt
sound-kind kind.NumberType is = tt
sound-kind kind.ItemType is = tt
sound-kind kind.FontSize is = tt
sound-kind kind.Rel is = tt

kinds-sound : (element : Element) → list_all (λ attr. is_sound_kind (kind_of element attr)) all_attrs ≡ true
unfolding kind_of
kinds-sound = each_element (λ element. list_all (λ attr. is_sound_kind (kind_of element attr)) all_attrs) refl

-- the laws of values, URIs and styles
pub record Readings : Type 0 where
  pub values : ReadAsItself
  pub allowed : AreAllowed
  pub uris : ReadAgain
  pub uris_allowed : UrisAreAllowed
  pub characters : (raw : List ℕ) (uri : PlainUri) → uri_of raw ≡ Some uri → list_all is_canonical_byte (uri_text uri) ≡ true
  pub styles : StyleReadAsItself
  pub styles_allowed : (rules : Rules) (rule : PlainHostRule) (raw value : List ℕ) → style_read rules rule raw ≡ Some value
      → list_all is_allowed value ≡ true

-- a value that is read as itself, and has allowed characters alone
pub record IsReading (read : List ℕ → Option (List ℕ)) (value : List ℕ) : Type 0 where
  pub again : read value ≡ Some value
  pub allowed : list_all is_allowed value ≡ true

-- what is kept has its name
pub kept-name : (rules : Rules) (rule : PlainHostRule) (element : Element) (pair left : Attribute) → kept_attribute rules rule element pair ≡ Some left
    → left.0 ≡ pair.0
kept-name rules rule element pair left is =
    option_and_then_some (λ attr. cond (permits_attribute rules element attr) (option_map (λ value. (pair.0, value)) (value_on rules rule element attr pair.1)) None)
    (attr_named pair.0) left is
    (λ attr named gives. permitted (permits_attribute rules element attr) (value_on rules rule element attr pair.1) gives)
  where
    permitted : (b : Bool) (o : Option (List ℕ)) → cond b (option_map {U = Attribute} (λ value. (pair.0, value)) o) None ≡ Some left → left.0 ≡ pair.0
    permitted true None gives = absurd (cc)
    permitted true (Some value) gives = ap (λ (l : Attribute). l.0) (sym (same_Some (pair.0, value) left gives))
    permitted false o gives = absurd (cc)

-- a name to which an attribute is looked up is the name of one
found-any : (test : Attr → Bool) (attrs : List Attr) (attr : Attr) → find test attrs ≡ Some attr → list_any test attrs ≡ true
found-any test [] attr is = absurd (cc)
found-any test (first ∷ attrs) attr is = go (test first) is (found-any test attrs attr)
  where
    go : (b : Bool) → cond b (Some first) (find test attrs) ≡ Some attr → (find test attrs ≡ Some attr → list_any test attrs ≡ true)
        → (b || list_any test attrs) ≡ true
    go true found rest = refl
    go false found rest = rest found

named-name : (name : List ℕ) (attr : Attr) → attr_named name ≡ Some attr → is_attr_name name ≡ true
unfolding attr_named
named-name name attr is = found-any (λ a. bytes_eq (attr_name a) name) all_attrs attr is

module _ (known : Readings) (rules : Rules) (rule : PlainHostRule) where
  uri-reading : (purpose : UriUse) (raw value : List ℕ) → list_all is_allowed raw ≡ true → uri_on rules rule purpose raw ≡ Some value
      → IsReading (uri_on rules rule purpose) value
  uri-reading purpose raw value all is = go (uri_under rules rule purpose raw) refl is
    where
      go : (o : Option PlainUri) → uri_under rules rule purpose raw ≡ o → option_map uri_text o ≡ Some value → IsReading (uri_on rules rule purpose) value
      go None e is = absurd (cc)
      go (Some uri) e is =
          let same : uri_text uri ≡ value = same_Some (uri_text uri) value is in
          subst (IsReading (uri_on rules rule purpose)) same
          (record {
            again = ap (option_map uri_text) (known.uris rules rule purpose raw uri all e);
            allowed = (known.uris_allowed rules rule purpose raw uri e).text;
          })

  style-reading : (raw value : List ℕ) → list_all is_allowed raw ≡ true → style_read rules rule raw ≡ Some value → IsReading (style_read rules rule) value
  style-reading raw value all is =
      let characters = allowed_scalars raw all in
      record {
        again = known.styles rules rule (encode_utf8_all raw) value (raw, (characters, refl)) (ap (style_read rules rule) (chars-encodes raw characters) ∙ is);
        allowed = known.styles_allowed rules rule raw value is;
      }

  kind-reading : (element : Element) (attr : Attr) (raw value : List ℕ) → list_all is_allowed raw ≡ true
      → option_and_then (λ k. value_of k raw) (kind_of element attr) ≡ Some value
      → IsReading (λ text. option_and_then (λ k. value_of k text) (kind_of element attr)) value
  kind-reading element attr raw value all is =
      option_and_then_some (λ k. value_of k raw) (kind_of element attr) value is
      (λ k has reads.
      let sound = sound-kind k (ap is_sound_kind (sym has) ∙ each_attr (λ a. is_sound_kind (kind_of element a)) (kinds-sound element) attr) in
      record {
        again = ap (option_and_then (λ j. value_of j value)) has ∙ known.values k raw value sound reads;
        allowed = known.allowed k raw value sound all reads;
      })

  reading-again : (element : Element) (attr : Attr) (raw value : List ℕ) → list_all is_allowed raw ≡ true → value_on rules rule element attr raw ≡ Some value
      → IsReading (value_on rules rule element attr) value
  reading-again element Action raw value all is = uri-reading Link raw value all is
  reading-again element Cite raw value all is = uri-reading Link raw value all is
  reading-again element Href raw value all is = uri-reading Link raw value all is
  reading-again element Longdesc raw value all is = uri-reading Link raw value all is
  reading-again element Src raw value all is = uri-reading Embed raw value all is
  reading-again element Style raw value all is = style-reading raw value all is
  reading-again element attr raw value all is = kind-reading element attr raw value all is

  -- what is kept is valid, and may stand in a tag
  pub kept-fine : (element : Element) (pair left : Attribute) → list_all is_allowed pair.1 ≡ true → kept_attribute rules rule element pair ≡ Some left
      → (is_valid_attribute rules rule element left && is_spellable_attribute left) ≡ true
  kept-fine element pair left all is =
      option_and_then_some (λ attr. cond (permits_attribute rules element attr) (option_map (λ value. (pair.0, value)) (value_on rules rule element attr pair.1)) None)
      (attr_named pair.0) left is
      (λ attr named gives. permitted attr named (permits_attribute rules element attr) refl gives)
    where
      read : (attr : Attr) → attr_named pair.0 ≡ Some attr → permits_attribute rules element attr ≡ true → (o : Option (List ℕ))
          → value_on rules rule element attr pair.1 ≡ o → option_map {U = Attribute} (λ value. (pair.0, value)) o ≡ Some left
          → (is_valid_attribute rules rule element left && is_spellable_attribute left) ≡ true
      read attr named permits None reads gives = absurd (cc)
      read attr named permits (Some value) reads gives =
          let again = reading-again element attr pair.1 value all reads in
          subst (λ l. (is_valid_attribute rules rule element l && is_spellable_attribute l) ≡ true) (same_Some (pair.0, value) left gives)
          (and_from _ _
          (ap (λ o. option_map_or (λ a. permits_attribute rules element a && is_canonical rules rule element a value) o false) named
          ∙ and_from _ _ permits (reading-canonical rules rule element attr value again.again))
          (and_from _ _ (named-name pair.0 attr named) again.allowed))

      permitted : (attr : Attr) → attr_named pair.0 ≡ Some attr → (b : Bool) → permits_attribute rules element attr ≡ b
          → cond b (option_map {U = Attribute} (λ value. (pair.0, value)) (value_on rules rule element attr pair.1)) None ≡ Some left
          → (is_valid_attribute rules rule element left && is_spellable_attribute left) ≡ true
      permitted attr named true permits gives = read attr named permits (value_on rules rule element attr pair.1) refl gives
      permitted attr named false permits gives = absurd (cc)

-- what is valid is kept as it is
pub valid-kept : (rules : Rules) (rule : PlainHostRule) (element : Element) (pair : Attribute) → is_valid_attribute rules rule element pair ≡ true
    → kept_attribute rules rule element pair ≡ Some pair
valid-kept rules rule element pair valid = go (attr_named pair.0) valid
  where
    go : (o : Option Attr)
        → option_map_or (λ a. permits_attribute rules element a && is_canonical rules rule element a pair.1) o false ≡ true
        → option_and_then (λ a. cond (permits_attribute rules element a) (option_map (λ value. (pair.0, value)) (value_on rules rule element a pair.1)) None) o
        ≡ Some pair
    go None is = absurd (cc)
    go (Some attr) is =
        let parts = and_parts (permits_attribute rules element attr) (is_canonical rules rule element attr pair.1) is in
        cond-true _ _ _ parts.0 ∙ ap (option_map (λ value. (pair.0, value))) (canonical-reading rules rule element attr pair.1 parts.1)

-- ---- ids

id-kind : (element : Element) → kind_of element Id ≡ Some kind.Id
unfolding kind_of
id-kind element =
    agree_at (λ e. kind_of e Id) (λ e. Some kind.Id) all_elements (element_rank element) element refl (all_elements-rank element)

id-reading : (rules : Rules) (rule : PlainHostRule) (element : Element) (raw : List ℕ) → value_on rules rule element Id raw ≡ kept_where (is_id (trimmed raw)) (trimmed raw)
unfolding value_of
id-reading rules rule element raw = ap (option_and_then (λ k. value_of k raw)) (id-kind element)

id-tight : (id : List ℕ) → is_id id ≡ true → trimmed id ≡ id
id-tight id is = solid-tight id (id-solid id is)

pub id-canonical : (rules : Rules) (rule : PlainHostRule) (element : Element) (id : List ℕ) → is_id id ≡ true → is_canonical rules rule element Id id ≡ true
id-canonical rules rule element id is =
    reading-canonical rules rule element Id id
    (id-reading rules rule element id ∙ ap (λ t. kept_where (is_id t) t) (id-tight id is) ∙ cond-true (is_id id) (Some id) None is)

pub canonical-id : (rules : Rules) (rule : PlainHostRule) (element : Element) (id : List ℕ) → is_canonical rules rule element Id id ≡ true → is_id id ≡ true
canonical-id rules rule element id is =
    let parts = kept (is_id (trimmed id)) (trimmed id) id (sym (id-reading rules rule element id) ∙ canonical-reading rules rule element Id id is) in
    subst (λ t. is_id t ≡ true) parts.1 parts.0

letter-character : (c : ℕ) → is_letter c ≡ true → is_id_character c ≡ true
letter-character c is = grind (arith, nat_tests)

id-characters : (id : List ℕ) → is_id id ≡ true → list_all is_id_character id ≡ true
id-characters [] is = refl
id-characters (c ∷ id) is =
    let parts = and_parts (is_letter c) (list_all is_id_character id) is in
    and_from _ _ (letter-character c parts.0) parts.1

id-behind : (prefix id : List ℕ) → begins_an_id prefix ≡ true → is_id id ≡ true → is_id (prefix ++ id) ≡ true
id-behind [] id begins is = is
id-behind (c ∷ prefix) id begins is =
    let parts = and_parts (is_letter c) (list_all is_id_byte prefix) begins in
    and_from _ _ parts.0 (all-append is_id_character prefix id parts.1 (id-characters id is))

pub id-prefixed : (prefix id : List ℕ) → begins_an_id prefix ≡ true → is_id id ≡ true → is_id (with_prefix prefix id) ≡ true
id-prefixed prefix id begins is = go (has_prefix prefix id)
  where
    go : (b : Bool) → is_id (cond b id (prefix ++ id)) ≡ true
    go true = is
    go false = id-behind prefix id begins is

-- ---- languages

language-kinds : (element : Element) → kind_of element Lang ≡ kind_of element XmlLang
unfolding kind_of
language-kinds element =
    agree_at (λ e. kind_of e Lang) (λ e. kind_of e XmlLang) all_elements (element_rank element) element refl (all_elements-rank element)

languages-declared : (doctype : Doctype) (element : Element)
    → list_any (same_attr Lang) (attributes_of doctype element) ≡ list_any (same_attr XmlLang) (attributes_of doctype element)
unfolding attributes_of
languages-declared Strict element =
    same_truth _ _ (each_element (λ e. beq (list_any (same_attr Lang) (attributes_of Strict e)) (list_any (same_attr XmlLang) (attributes_of Strict e))) refl element)
languages-declared Transitional element =
    same_truth _ _ (each_element (λ e. beq (list_any (same_attr Lang) (attributes_of Transitional e)) (list_any (same_attr XmlLang) (attributes_of Transitional e))) refl element)

listed-same : {A : Type 0} (p q : A → Bool) → ((x : A) → p x ≡ q x) → (list : Option (List A)) (denied : List A) → is_listed list denied p ≡ is_listed list denied q
listed-same p q alike None denied = ap not (any-same p q alike denied)
listed-same p q alike (Some list) denied = rw (any-same p q alike list, any-same p q alike denied) refl

languages-listed : (rules : Rules) (element : Element)
    → is_listed rules.attributes rules.denied_attributes (covers element Lang) ≡ is_listed rules.attributes rules.denied_attributes (covers element XmlLang)
languages-listed rules element = listed-same (covers element Lang) (covers element XmlLang) (languages-covered element) rules.attributes rules.denied_attributes

languages-required : (element : Element) → list_any (same_attr Lang) (required_of element) ≡ list_any (same_attr XmlLang) (required_of element)
languages-required element =
    same_truth _ _ (each_element (λ e. beq (list_any (same_attr Lang) (required_of e)) (list_any (same_attr XmlLang) (required_of e))) refl element)

three : (a b c d e f : Bool) → a ≡ b → c ≡ d → e ≡ f → (a && (c || e) && true) ≡ (b && (d || f) && true)
three a b c d e f p q r = ap (λ x. x && (c || e) && true) p ∙ ap (λ x. b && (x || e) && true) q ∙ ap (λ x. b && (d || x) && true) r

languages-permitted : (rules : Rules) (element : Element) → permits_attribute rules element Lang ≡ permits_attribute rules element XmlLang
languages-permitted rules element =
    three _ _ _ _ _ _ (languages-declared rules.doctype element) (languages-listed rules element) (languages-required element)

-- a value is valid for both or for neither
pub languages-valid : (rules : Rules) (rule : PlainHostRule) (element : Element) (value : List ℕ)
    → is_valid_attribute rules rule element (codes "lang", value) ≡ is_valid_attribute rules rule element (codes "xml:lang", value)
languages-valid rules rule element value =
    valid-named rules rule element Lang value
    ∙ ap (λ b. b && is_canonical rules rule element Lang value) (languages-permitted rules element)
    ∙ ap (λ k. permits_attribute rules element XmlLang && option_map_or (is_same_text value) (option_and_then (λ j. value_of j value) k) false) (language-kinds element)
    ∙ sym (valid-named rules rule element XmlLang value)

-- ---- what an element must have

-- where the first of two holds, the second does
and-so : (a b : Bool) → (not a || b) ≡ true → a ≡ true → b ≡ true
and-so true b so is = so
and-so false b so is = absurd (cc)

-- each doctype declares it
abbrev declares : Doctype → Element → Attr → Bool
declares doctype element attr = not (list_any (same_attr attr) (required_of element)) || list_any (same_attr attr) (attributes_of doctype element)

declares-each : (doctype : Doctype) (element : Element) → list_all (declares doctype element) all_attrs ≡ true
unfolding attributes_of
declares-each Strict = each_element (λ element. list_all (declares Strict element) all_attrs) refl
declares-each Transitional = each_element (λ element. list_all (declares Transitional element) all_attrs) refl

-- and so it is permitted
pub required-permitted : (rules : Rules) (element : Element) (attr : Attr) → list_any (same_attr attr) (required_of element) ≡ true
    → not (same_attr attr Id) ≡ true → permits_attribute rules element attr ≡ true
required-permitted rules element attr is other =
    and_from _ _
    (and_from _ _ (and-so _ _ (each_attr (declares rules.doctype element) (declares-each rules.doctype element) attr) is)
    (ap (λ b. is_listed rules.attributes rules.denied_attributes (covers element attr) || b) is
    ∙ or_true (is_listed rules.attributes rules.denied_attributes (covers element attr))))
    (ap (λ b. b || rules.ids) other)

-- what is put in without looking at the other attributes is its own reading
module _ (rules : Rules) (rule : PlainHostRule) where
  required-valid : (element : Element) (attr : Attr) (value : List ℕ) → list_any (same_attr attr) (required_of element) ≡ true
      → not (same_attr attr Id) ≡ true → is_canonical rules rule element attr value ≡ true
      → is_valid_attribute rules rule element (attr_name attr, value) ≡ true
  required-valid element attr value is other canonical =
      valid-named rules rule element attr value ∙ and_from _ _ (required-permitted rules element attr is other) canonical

  pub direction-valid : is_valid_attribute rules rule Bdo (codes "dir", codes "ltr") ≡ true
  unfolding attributes_of kind_of is_declared trimmed value_of
  direction-valid = required-valid Bdo Dir (codes "ltr") refl refl refl

  pub label-valid : is_valid_attribute rules rule Optgroup (codes "label", []) ≡ true
  unfolding kind_of value_of
  label-valid = required-valid Optgroup Label [] refl refl refl

  pub rows-valid : is_valid_attribute rules rule Textarea (codes "rows", codes "4") ≡ true
  unfolding kind_of is_declared trimmed value_of digits numeral
  rows-valid = required-valid Textarea Rows (codes "4") refl refl refl

  pub cols-valid : is_valid_attribute rules rule Textarea (codes "cols", codes "40") ≡ true
  unfolding kind_of is_declared trimmed value_of digits numeral
  cols-valid = required-valid Textarea Cols (codes "40") refl refl refl

  pub action-valid : is_valid_attribute rules rule Form (codes "action", []) ≡ true
  unfolding lib.Utf8.encode tidied has_scheme scheme_part behind_scheme has_authority authority_part behind_authority query_part behind_query fragment_part parts_of stays_in_path stays_in_query normalised fits has_reading reading_of uri_of_parts uri_of uri_text is_fit admits uri_under
  action-valid = required-valid Form Action [] refl refl refl

-- ---- the text in the place of a picture

byte-allowed : (b : ℕ) → is_canonical_byte b ≡ true → is_allowed b ≡ true
unfolding is_canonical_byte stays_in_query stays_in_path
byte-allowed b is = grind (arith, nat_tests)

byte-spaced : (b : ℕ) → is_canonical_byte b ≡ true → spaced b ≡ b
unfolding is_canonical_byte stays_in_query stays_in_path
byte-spaced b is = grind (arith, nat_tests)

pub bytes-allowed : (text : List ℕ) → list_all is_canonical_byte text ≡ true → list_all is_allowed text ≡ true
bytes-allowed = all-weaker is_canonical_byte is_allowed byte-allowed

bytes-spaced : (text : List ℕ) → list_all is_canonical_byte text ≡ true → map spaced text ≡ text
bytes-spaced [] all = refl
bytes-spaced (b ∷ text) all =
    let parts = and_parts (is_canonical_byte b) (list_all is_canonical_byte text) all in
    ap (λ c. c ∷ map spaced text) (byte-spaced b parts.0) ∙ ap (λ l. b ∷ l) (bytes-spaced text parts.1)

alt-kind : kind_of Img Alt ≡ Some kind.Text
unfolding kind_of
alt-kind = refl

pub alt-valid : (rules : Rules) (rule : PlainHostRule) (text : List ℕ) → list_all is_canonical_byte text ≡ true
    → is_valid_attribute rules rule Img (codes "alt", text) ≡ true
unfolding value_of
alt-valid rules rule text all =
    valid-named rules rule Img Alt text
    ∙ and_from _ _ (required-permitted rules Img Alt refl refl)
    (reading-canonical rules rule Img Alt text (ap (option_and_then (λ k. value_of k text)) alt-kind ∙ ap Some (bytes-spaced text all)))
