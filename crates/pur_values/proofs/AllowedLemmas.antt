-- What a value of allowed characters is read as has allowed characters alone.
use Rattle.std.proofs.Common.{◌≡◌, ℕ, ◌<◌, ◌^◌, Bool, true, false, List, [], ◌∷◌, ◌++◌, length, map, min, Option, Some, None, filter, refl, sym, ap, subst, ◌∙◌, arith, ⊎_elim, lit<}
use Rattle.std.specs.Prelude.{if◌then◌else◌, nat_le, ◌==◌, ◌&&◌, ◌||◌}
use Rattle.std.specs.Fmt.{decimal}
use Rattle.std.specs.List.{list_all, flat_map, slice_split}
use Rattle.std.specs.Str.{bytes_eq, str_to_ascii_lowercase}
use Rattle.std.proofs.lemmas.Bool.{cases_Bool, cond-true, cond-false, and_parts, and_from}
use Rattle.std.proofs.lemmas.Bool.Decides.{nat_tests}
use Rattle.pur_laws.proofs.Lists.{all-append, all-kept, all-weaker}
use Rattle.pur_laws.proofs.Tests.{kept, all-named}
use Rattle.pur_text.specs.Characters.{is_allowed}
use Rattle.pur_text.specs.Trimming.{trimmed}
use Rattle.pur_names.proofs.ElementLaws.{each_element}
use Rattle.pur_names.specs.Attributes.{attr_name, all_attrs, attr_rank}
use Rattle.pur_names.specs.declared.attributes.Attr.{Attr}
use Rattle.pur_names.specs.declared.attributes.Attr.TheVariants as attr
use Rattle.pur_names.specs.declared.elements.Element.{Element}
use Rattle.pur_names.proofs.AttrLaws.{all_attrs-rank}
use Rattle.pur_csstok.specs.Atoms.{is_color}
use Rattle.pur_csstok.specs.Colors as style
use Rattle.pur_values.specs.Choices.{alignments, control_types, words_of, bullets, numberings, bullet_of, numbering_of, item_of, lowered_among, is_font_size, is_size_digit}
use Rattle.pur_values.specs.Colors.{color_of, is_bare}
use Rattle.pur_values.specs.Kinds.{is_declared, keywords_of}
use Rattle.pur_values.specs.Laws.{IsSound}
use Rattle.pur_values.specs.Numbers.{numeral, at_most, from_least, measure, pixels, pixels_or_part, shares, digits_of, unit_of, multi_length_of}
use Rattle.pur_values.specs.Private.Seen.{passes}
use Rattle.pur_values.specs.Tokens.{pieces, distinct, joined, tokens_of, is_id, is_id_character, is_language, is_subtag, is_class_start, is_class_character, relations}
use Rattle.pur_values.specs.Values.{spaced, value_of}
use Rattle.pur_values.specs.Words.{is_among, is_digit, is_letter, is_letter_or_digit, kept_where}
use Rattle.pur_values.specs.declared.kinds.ValueKind.{ValueKind}
use Rattle.pur_values.specs.declared.kinds.ValueKind.TheVariants as kind
use Rattle.pur_values.specs.declared.tokens.TokenKind.{TokenKind}
use Rattle.pur_values.specs.declared.tokens.TokenKind.TheVariants.{Class, Relation}
use Rattle.pur_values.proofs.FixedLemmas.{language_lowered}
use Rattle.pur_values.proofs.FixedNumberLemmas.{IsMeasure, decimal_digits, measured, percent, pixels_measured, star}
use Rattle.pur_values.proofs.FixedTokenLemmas.{all_joined}
use Rattle.pur_values.proofs.SolidLemmas.{is_dash, pieces_all}
use Rattle.pur_values.proofs.TableLemmas.{agree_at}
use Rattle.pur_values.proofs.TokenLemmas.{behind_space, all_distinct}

-- a text of allowed characters alone
abbrev pub are_allowed : List ℕ → Bool
are_allowed text = list_all is_allowed text

-- ---- single characters

id_allowed : (c : ℕ) → is_id_character c ≡ true → is_allowed c ≡ true
id_allowed c is = grind (arith, nat_tests)

letter_allowed : (c : ℕ) → is_letter c ≡ true → is_allowed c ≡ true
letter_allowed c is = grind (arith, nat_tests)

either_allowed : (c : ℕ) → is_letter_or_digit c ≡ true → is_allowed c ≡ true
either_allowed c is = grind (arith, nat_tests)

digit_allowed : (c : ℕ) → is_digit c ≡ true → is_allowed c ≡ true
digit_allowed c is = grind (arith, nat_tests)

size_allowed : (c : ℕ) → is_size_digit c ≡ true → is_allowed c ≡ true
size_allowed c is = grind (arith, nat_tests)

sign_allowed : (c : ℕ) → (c == 0x2B || c == 0x2D) ≡ true → is_allowed c ≡ true
sign_allowed c is = grind (arith, nat_tests)

hex_allowed : (c : ℕ) → style.is_hex_digit c ≡ true → is_allowed c ≡ true
hex_allowed c is = grind (arith, nat_tests)

mark_allowed : (c : ℕ) → (c == 0x23) ≡ true → is_allowed c ≡ true
mark_allowed c is = grind (arith, nat_tests)

dash_allowed : (c : ℕ) → is_dash c ≡ true → is_allowed c ≡ true
dash_allowed c is = grind (arith, nat_tests)

class_start_allowed : (c : ℕ) → is_class_start c ≡ true → is_allowed c ≡ true
class_start_allowed c is = grind (arith, nat_tests)

class_allowed : (c : ℕ) → is_class_character c ≡ true → is_allowed c ≡ true
class_allowed c is = grind (arith, nat_tests)

-- ---- texts of a form

pub id-allowed : (text : List ℕ) → is_id text ≡ true → list_all is_allowed text ≡ true
id-allowed [] is = refl
id-allowed (c ∷ text) is =
    let parts = and_parts (is_letter c) (list_all is_id_character text) is in
    and_from _ _ (letter_allowed c parts.0) (all-weaker is_id_character is_allowed id_allowed text parts.1)

font_size-allowed : (text : List ℕ) → is_font_size text ≡ true → are_allowed text ≡ true
font_size-allowed [] is = refl
font_size-allowed (c ∷ []) is = and_from _ _ (size_allowed c is) refl
font_size-allowed (s ∷ c ∷ []) is =
    let parts = and_parts (s == 0x2B || s == 0x2D) (is_size_digit c) is in
    and_from _ _ (sign_allowed s parts.0) (and_from _ _ (size_allowed c parts.1) refl)
font_size-allowed (a ∷ b ∷ c ∷ text) is = absurd cc

subtag-allowed : (piece : List ℕ) → is_subtag piece ≡ true → are_allowed piece ≡ true
subtag-allowed piece is = all-weaker is_letter_or_digit is_allowed either_allowed piece (and_parts _ _ is).1

language-allowed : (text : List ℕ) → is_language text ≡ true → are_allowed text ≡ true
language-allowed text is =
    pieces_all is_allowed dash_allowed text (all-weaker is_subtag are_allowed subtag-allowed (slice_split is_dash text) (and_parts _ _ is).0)

token-allowed : (kind : TokenKind) (token : List ℕ) → passes kind token ≡ true → are_allowed token ≡ true
token-allowed Class [] is = refl
token-allowed Class (c ∷ token) is =
    let parts = and_parts (is_class_start c) (list_all is_class_character token) is in
    and_from _ _ (class_start_allowed c parts.0) (all-weaker is_class_character is_allowed class_allowed token parts.1)
token-allowed Relation token is = all-named are_allowed relations token refl is

numbering-allowed : (text : List ℕ) → is_among numberings text ≡ true → are_allowed text ≡ true
numbering-allowed text is = all-named are_allowed numberings text refl is

color-allowed : (text : List ℕ) → is_color text ≡ true → are_allowed text ≡ true
color-allowed [] is = refl
color-allowed (c ∷ digits) is =
    let parts = and_parts (c == 0x23 && length (c ∷ digits) == 7) (list_all style.is_hex_digit digits) is in
    and_from _ _ (mark_allowed c (and_parts (c == 0x23) (length (c ∷ digits) == 7) parts.0).0) (all-weaker style.is_hex_digit is_allowed hex_allowed digits parts.1)

-- ---- words and names

alignments_allowed : (element : Element) → list_all are_allowed (alignments element) ≡ true
alignments_allowed = each_element (λ e. list_all are_allowed (alignments e)) refl

controls_allowed : (element : Element) → list_all are_allowed (control_types element) ≡ true
controls_allowed = each_element (λ e. list_all are_allowed (control_types e)) refl

words_allowed : (element : Element) (a : Attr) → list_all are_allowed (words_of element a) ≡ true
words_allowed element attr.Align = alignments_allowed element
words_allowed element attr.ListType = controls_allowed element
words_allowed element a = refl

keywords-allowed : (element : Element) (a : Attr) → list_all are_allowed (keywords_of element a) ≡ true
keywords-allowed element a = either (is_declared element a)
  where
    either : (b : Bool) → list_all are_allowed (if b then words_of element a else []) ≡ true
    either true = words_allowed element a
    either false = refl

names_allowed : map (λ a. are_allowed (attr_name a)) all_attrs ≡ map (λ a. true) all_attrs
names_allowed = refl

name-allowed : (a : Attr) → are_allowed (attr_name a) ≡ true
name-allowed a = agree_at (λ a. are_allowed (attr_name a)) (λ a. true) all_attrs (attr_rank a) a names_allowed (all_attrs-rank a)

-- ---- what is kept

kept-allowed : (test : List ℕ → Bool) → ((text : List ℕ) → test text ≡ true → are_allowed text ≡ true)
    → (text value : List ℕ) → kept_where (test text) text ≡ Some value → are_allowed value ≡ true
kept-allowed test allowed text value is =
    let k = kept (test text) text value is in
    subst (λ t. are_allowed t ≡ true) k.1 (allowed text k.0)

among-allowed : (words : List (List ℕ)) → list_all are_allowed words ≡ true → (text value : List ℕ) → lowered_among words text ≡ Some value → are_allowed value ≡ true
among-allowed words allowed text value is =
    let low = str_to_ascii_lowercase text in
    let k = kept (is_among words low) low value is in
    subst (λ t. are_allowed t ≡ true) k.1 (all-named are_allowed words low allowed k.0)

lowered-allowed : (text value : List ℕ) → kept_where (is_language text) (str_to_ascii_lowercase text) ≡ Some value → are_allowed value ≡ true
lowered-allowed text value is =
    let low = str_to_ascii_lowercase text in
    let k = kept (is_language text) low value is in
    subst (λ t. are_allowed t ≡ true) k.1 (language-allowed low (language_lowered text k.0))

item-allowed : (text value : List ℕ) → item_of text ≡ Some value → are_allowed value ≡ true
item-allowed text value is = ⊎_elim
    (λ (number : is_among numberings text ≡ true).
    kept-allowed (is_among numberings) numbering-allowed text value
    (sym (cond-true (is_among numberings text) (numbering_of text) (bullet_of text) number) ∙ is))
    (λ (other : is_among numberings text ≡ false).
    among-allowed bullets refl text value (sym (cond-false (is_among numberings text) (numbering_of text) (bullet_of text) other) ∙ is))
    (cases_Bool (is_among numberings text))

-- ---- tokens

joined-allowed : (kind : TokenKind) (tokens : List (List ℕ)) (value : List ℕ) → list_all (passes kind) tokens ≡ true → joined tokens ≡ Some value → are_allowed value ≡ true
joined-allowed kind [] value all is = absurd (cc)
joined-allowed kind (token ∷ tokens) value all is =
    let same : token ++ flat_map behind_space tokens ≡ value = cc in
    let first = and_parts (passes kind token) (list_all (passes kind) tokens) all in
    subst (λ t. are_allowed t ≡ true) same
    (all_joined is_allowed token tokens refl (token-allowed kind token first.0)
    (all-weaker (passes kind) are_allowed (token-allowed kind) tokens first.1))

tokens-allowed : (kind : TokenKind) (text value : List ℕ) → tokens_of (passes kind) text ≡ Some value → are_allowed value ≡ true
tokens-allowed kind text value is =
    let tokens = filter (passes kind) (pieces text) in
    joined-allowed kind (distinct tokens) value (all_distinct (passes kind) tokens (all-kept (passes kind) (pieces text))) is

-- ---- numbers

decimal-allowed : (n : ℕ) → n < 2 ^ 64 → are_allowed (decimal n) ≡ true
decimal-allowed n small = all-weaker is_digit is_allowed digit_allowed (decimal n) (decimal_digits n small)

measure-allowed : (most : ℕ) (unit text : List ℕ) → most < 2 ^ 64 → are_allowed unit ≡ true → IsMeasure most unit text → are_allowed text ≡ true
measure-allowed most unit text fits allowed m =
    let below = m.small in
    let small : m.number < 2 ^ 64 = omega arith in
    subst (λ t. are_allowed t ≡ true) (sym m.text_is) (all-append is_allowed (decimal m.number) unit (decimal-allowed m.number small) allowed)

in_pixels-allowed : (digits unit value : List ℕ) → pixels digits unit ≡ Some value → are_allowed value ≡ true
in_pixels-allowed digits unit value is = measure-allowed 9999 [] value (lit< tt) refl (pixels_measured digits unit value is)

in_part-allowed : (digits unit value : List ℕ) → pixels_or_part digits unit ≡ Some value → are_allowed value ≡ true
in_part-allowed digits unit value is = ⊎_elim
    (λ (part : bytes_eq unit percent ≡ true).
    measure-allowed 100 percent value (lit< tt) refl
    (measured 100 percent value (numeral digits) (sym (cond-true (bytes_eq unit percent) (measure 100 percent (numeral digits)) (pixels digits unit) part) ∙ is)))
    (λ (other : bytes_eq unit percent ≡ false).
    in_pixels-allowed digits unit value (sym (cond-false (bytes_eq unit percent) (measure 100 percent (numeral digits)) (pixels digits unit) other) ∙ is))
    (cases_Bool (bytes_eq unit percent))

multi_length-allowed : (text value : List ℕ) → multi_length_of text ≡ Some value → are_allowed value ≡ true
multi_length-allowed text value is =
    let digits = digits_of text in
    let unit = unit_of text in
    ⊎_elim
    (λ (share : bytes_eq unit star ≡ true).
    measure-allowed 9999 star value (lit< tt) refl
    (measured 9999 star value (shares digits) (sym (cond-true (bytes_eq unit star) (measure 9999 star (shares digits)) (pixels_or_part digits unit) share) ∙ is)))
    (λ (other : bytes_eq unit star ≡ false).
    in_part-allowed digits unit value (sym (cond-false (bytes_eq unit star) (measure 9999 star (shares digits)) (pixels_or_part digits unit) other) ∙ is))
    (cases_Bool (bytes_eq unit star))

number-allowed : (least most : ℕ) (number : Option ℕ) (value : List ℕ) → most < 2 ^ 64 → from_least least most number ≡ Some value → are_allowed value ≡ true
number-allowed least most None value fits is = absurd (cc)
number-allowed least most (Some n) value fits is =
    let k = kept (nat_le least n) (at_most most n) value is in
    let small : min n most < 2 ^ 64 = omega arith in
    subst (λ t. are_allowed t ≡ true) k.1 (decimal-allowed (min n most) small)

-- ---- texts

spaced_allowed : (c : ℕ) → is_allowed c ≡ true → is_allowed (spaced c) ≡ true
spaced_allowed c is = ⊎_elim
    (λ (other : (c == 0x9 || c == 0xA) ≡ true). ap is_allowed (cond-true (c == 0x9 || c == 0xA) 0x20 c other))
    (λ (same : (c == 0x9 || c == 0xA) ≡ false). ap is_allowed (cond-false (c == 0x9 || c == 0xA) 0x20 c same) ∙ is)
    (cases_Bool (c == 0x9 || c == 0xA))

all_spaced : (text : List ℕ) → are_allowed text ≡ true → are_allowed (map spaced text) ≡ true
all_spaced [] all = refl
all_spaced (c ∷ text) all =
    let both = and_parts (is_allowed c) (are_allowed text) all in
    and_from _ _ (spaced_allowed c both.0) (all_spaced text both.1)

-- ---- every kind

-- a style's colours are digits
module _ (digits : (text output : List ℕ) → style.color_read false text ≡ Some output → is_color output ≡ true) where
  color-read : (text value : List ℕ) → color_of text ≡ Some value → are_allowed value ≡ true
  color-read text value is = ⊎_elim
      (λ (bare : is_bare text ≡ true). color-allowed value (digits (0x23 ∷ text) value (sym (cond-true (is_bare text) _ _ bare) ∙ is)))
      (λ (other : is_bare text ≡ false). color-allowed value (digits text value (sym (cond-false (is_bare text) _ _ other) ∙ is)))
      (cases_Bool (is_bare text))

  pub value_allowed : (k : ValueKind) (raw value : List ℕ) → IsSound k → list_all is_allowed raw ≡ true → value_of k raw ≡ Some value → list_all is_allowed value ≡ true
  unfolding value_of
  value_allowed kind.Text raw value sound all is = let same : map spaced raw ≡ value = cc in subst (λ t. are_allowed t ≡ true) same (all_spaced raw all)
  value_allowed kind.Id raw value sound all is = kept-allowed is_id id-allowed (trimmed raw) value is
  value_allowed kind.Class raw value sound all is = tokens-allowed Class (trimmed raw) value is
  value_allowed kind.Lang raw value sound all is = lowered-allowed (trimmed raw) value is
  value_allowed kind.Pixels raw value sound all is = in_pixels-allowed (digits_of (trimmed raw)) (unit_of (trimmed raw)) value is
  value_allowed kind.Length raw value sound all is = in_part-allowed (digits_of (trimmed raw)) (unit_of (trimmed raw)) value is
  value_allowed kind.MultiLength raw value sound all is = multi_length-allowed (trimmed raw) value is
  value_allowed (kind.Number least most) raw value sound all is =
      number-allowed least most (numeral (trimmed raw)) value (let s = sound.1 in omega (arith, s)) is
  value_allowed kind.Color raw value sound all is = color-read (trimmed raw) value is
  value_allowed (kind.Keyword element a) raw value sound all is = among-allowed (keywords_of element a) (keywords-allowed element a) (trimmed raw) value is
  value_allowed (kind.Flag a) raw value sound all is = let same : attr_name a ≡ value = cc in subst (λ t. are_allowed t ≡ true) same (name-allowed a)
  value_allowed kind.BulletType raw value sound all is = among-allowed bullets refl (trimmed raw) value is
  value_allowed kind.NumberType raw value sound all is = kept-allowed (is_among numberings) numbering-allowed (trimmed raw) value is
  value_allowed kind.ItemType raw value sound all is = item-allowed (trimmed raw) value is
  value_allowed kind.FontSize raw value sound all is = kept-allowed is_font_size font_size-allowed (trimmed raw) value is
  value_allowed kind.Rel raw value sound all is = tokens-allowed Relation (str_to_ascii_lowercase (trimmed raw)) value is
