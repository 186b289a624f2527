-- What values are made of: characters of ASCII without white space.
use Rattle.std.proofs.Common.{◌≡◌, ℕ, Bool, true, false, not, ◌&&◌, ◌||◌, List, [], ◌∷◌, length, map, refl, sym, ap, subst, ◌∙◌, arith, ⊎_elim}
use Rattle.std.specs.Prelude.{codes, if◌then◌else◌, ◌==◌}
use Rattle.std.specs.Cmp.Lexicographic.{same_text}
use Rattle.std.specs.List.{list_all, slice_split, onto_first}
use Rattle.std.specs.Str.{bytes_eq, str_to_ascii_lowercase}
use Rattle.std.proofs.lemmas.Bool.{cases_Bool, cond-true, cond-false, and_parts, and_from}
use Rattle.std.proofs.lemmas.Bool.Decides.{nat_tests}
use Rattle.pur_laws.proofs.Cases.{lowered-ascii}
use Rattle.pur_laws.proofs.Lists.{all-weaker}
use Rattle.pur_laws.proofs.Tests.{not_empty, all-named}
use Rattle.pur_laws.proofs.Texts.{is_ascii}
use Rattle.pur_text.specs.Characters.{is_space}
use Rattle.pur_names.proofs.ElementLaws.{each_element}
use Rattle.pur_names.specs.Attributes.{attr_name, all_attrs, attr_rank}
use Rattle.pur_names.specs.declared.attributes.Attr.{Attr}
use Rattle.pur_names.specs.declared.attributes.Attr.TheVariants as attr
use Rattle.pur_names.specs.declared.elements.Element.{Element}
use Rattle.pur_names.proofs.AttrLaws.{all_attrs-rank}
use Rattle.pur_csstok.specs.Atoms.{is_color}
use Rattle.pur_csstok.specs.Colors as style
use Rattle.pur_values.specs.Choices.{alignments, control_types, words_of, numberings, is_font_size, is_size_digit}
use Rattle.pur_values.specs.Colors.{is_bare, is_hex_digit}
use Rattle.pur_values.specs.Kinds.{is_declared, keywords_of}
use Rattle.pur_values.specs.Numbers.{is_pixel_unit}
use Rattle.pur_values.specs.Private.Seen.{passes}
use Rattle.pur_values.specs.Tokens.{is_id, is_id_character, is_language, is_subtag, is_class_start, is_class_character, relations}
use Rattle.pur_values.specs.Words.{is_among, is_digit, is_letter, is_letter_or_digit}
use Rattle.pur_values.specs.declared.tokens.TokenKind.{TokenKind}
use Rattle.pur_values.specs.declared.tokens.TokenKind.TheVariants.{Class, Relation}
use Rattle.pur_values.proofs.TableLemmas.{agree_at}

abbrev pub is_other : ℕ → Bool
is_other c = not (is_space c)

abbrev pub is_solid : ℕ → Bool
is_solid c = is_ascii c && is_other c

pub solid-ascii : (text : List ℕ) → list_all is_solid text ≡ true → list_all is_ascii text ≡ true
solid-ascii text = all-weaker is_solid is_ascii (λ c is. (and_parts (is_ascii c) (is_other c) is).0) text

pub solid-other : (text : List ℕ) → list_all is_solid text ≡ true → list_all is_other text ≡ true
solid-other text = all-weaker is_solid is_other (λ c is. (and_parts (is_ascii c) (is_other c) is).1) text

-- ---- single characters

id_solid : (c : ℕ) → is_id_character c ≡ true → is_solid c ≡ true
id_solid c is = grind (arith, nat_tests)

letter_solid : (c : ℕ) → is_letter c ≡ true → is_solid c ≡ true
letter_solid c is = grind (arith, nat_tests)

either_solid : (c : ℕ) → is_letter_or_digit c ≡ true → is_solid c ≡ true
either_solid c is = grind (arith, nat_tests)

pub digit_solid : (c : ℕ) → is_digit c ≡ true → is_solid c ≡ true
digit_solid c is = grind (arith, nat_tests)

size_solid : (c : ℕ) → is_size_digit c ≡ true → is_solid c ≡ true
size_solid c is = grind (arith, nat_tests)

sign_solid : (c : ℕ) → (c == 0x2B || c == 0x2D) ≡ true → is_solid c ≡ true
sign_solid c is = grind (arith, nat_tests)

hex_solid : (c : ℕ) → is_hex_digit c ≡ true → is_solid c ≡ true
hex_solid c is = grind (arith, nat_tests)

style_hex_solid : (c : ℕ) → style.is_hex_digit c ≡ true → is_solid c ≡ true
style_hex_solid c is = grind (arith, nat_tests)

mark_solid : (c : ℕ) → (c == 0x23) ≡ true → is_solid c ≡ true
mark_solid c is = grind (arith, nat_tests)

dash_solid : (c : ℕ) → (c == 0x2D) ≡ true → is_solid c ≡ true
dash_solid c is = grind (arith, nat_tests)

class_start_solid : (c : ℕ) → is_class_start c ≡ true → is_solid c ≡ true
class_start_solid c is = grind (arith, nat_tests)

class_solid : (c : ℕ) → is_class_character c ≡ true → is_solid c ≡ true
class_solid c is = grind (arith, nat_tests)

-- ---- texts of a form

pub id-solid : (text : List ℕ) → is_id text ≡ true → list_all is_solid text ≡ true
id-solid [] is = refl
id-solid (c ∷ text) is =
    let parts = and_parts (is_letter c) (list_all is_id_character text) is in
    and_from _ _ (letter_solid c parts.0) (all-weaker is_id_character is_solid id_solid text parts.1)

pub font_size-solid : (text : List ℕ) → is_font_size text ≡ true → list_all is_solid text ≡ true
font_size-solid [] is = refl
font_size-solid (c ∷ []) is = and_from _ _ (size_solid c is) refl
font_size-solid (s ∷ c ∷ []) is =
    let parts = and_parts (s == 0x2B || s == 0x2D) (is_size_digit c) is in
    and_from _ _ (sign_solid s parts.0) (and_from _ _ (size_solid c parts.1) refl)
font_size-solid (a ∷ b ∷ c ∷ text) is = absurd cc

-- what all pieces between dashes have alone, the text has alone, where a dash is such too
first_of : (test : ℕ → Bool) (c : ℕ) (pieces : List (List ℕ)) → list_all (list_all test) (onto_first c pieces) ≡ true
    → (test c ≡ true) × (list_all (list_all test) pieces ≡ true)
first_of test c [] all = let outer = and_parts (list_all test (c ∷ [])) true all in ((and_parts (test c) true outer.0).0, refl)
first_of test c (piece ∷ pieces) all =
    let outer = and_parts (list_all test (c ∷ piece)) (list_all (list_all test) pieces) all in
    let inner = and_parts (test c) (list_all test piece) outer.0 in
    (inner.0, and_from (list_all test piece) (list_all (list_all test) pieces) inner.1 outer.1)

abbrev pub is_dash : ℕ → Bool
is_dash c = c == 0x2D

pub pieces_all : (test : ℕ → Bool) → ((c : ℕ) → is_dash c ≡ true → test c ≡ true) → (text : List ℕ)
    → list_all (list_all test) (slice_split is_dash text) ≡ true → list_all test text ≡ true
pieces_all test dashes [] all = refl
pieces_all test dashes (c ∷ text) all = ⊎_elim
    (λ (dash : is_dash c ≡ true).
    let cut : list_all (list_all test) ([] ∷ slice_split is_dash text) ≡ true =
    subst (λ l. list_all (list_all test) l ≡ true) (cond-true (is_dash c) ([] ∷ slice_split is_dash text) (onto_first c (slice_split is_dash text)) dash) all in
    and_from _ _ (dashes c dash) (pieces_all test dashes text cut))
    (λ (other : is_dash c ≡ false).
    let joined : list_all (list_all test) (onto_first c (slice_split is_dash text)) ≡ true =
    subst (λ l. list_all (list_all test) l ≡ true) (cond-false (is_dash c) ([] ∷ slice_split is_dash text) (onto_first c (slice_split is_dash text)) other) all in
    let parts = first_of test c (slice_split is_dash text) joined in
    and_from _ _ parts.0 (pieces_all test dashes text parts.1))
    (cases_Bool (is_dash c))

subtag_solid : (piece : List ℕ) → is_subtag piece ≡ true → list_all is_solid piece ≡ true
subtag_solid piece is = all-weaker is_letter_or_digit is_solid either_solid piece (and_parts _ _ is).1

pub language-solid : (text : List ℕ) → is_language text ≡ true → list_all is_solid text ≡ true
language-solid text is =
    pieces_all is_solid dash_solid text (all-weaker is_subtag (list_all is_solid) subtag_solid (slice_split is_dash text) (and_parts _ _ is).0)

pub token-solid : (kind : TokenKind) (token : List ℕ) → passes kind token ≡ true → list_all is_solid token ≡ true
token-solid Class [] is = refl
token-solid Class (c ∷ token) is =
    let parts = and_parts (is_class_start c) (list_all is_class_character token) is in
    and_from _ _ (class_start_solid c parts.0) (all-weaker is_class_character is_solid class_solid token parts.1)
token-solid Relation token is = all-named (list_all is_solid) relations token refl is

pub numbering-solid : (text : List ℕ) → is_among numberings text ≡ true → list_all is_solid text ≡ true
numbering-solid text is = all-named (list_all is_solid) numberings text refl is

bare-solid : (text : List ℕ) → is_bare text ≡ true → list_all is_solid text ≡ true
bare-solid text is = all-weaker is_hex_digit is_solid hex_solid text (and_parts _ _ is).1

pub color-solid : (text : List ℕ) → is_color text ≡ true → list_all is_solid text ≡ true
color-solid [] is = refl
color-solid (c ∷ digits) is =
    let parts = and_parts (c == 0x23 && length (c ∷ digits) == 7) (list_all style.is_hex_digit digits) is in
    and_from _ _ (mark_solid c (and_parts (c == 0x23) (length (c ∷ digits) == 7) parts.0).0) (all-weaker style.is_hex_digit is_solid style_hex_solid digits parts.1)

-- ---- the words of attributes

alignments_solid : (element : Element) → list_all (list_all is_solid) (alignments element) ≡ true
alignments_solid = each_element (λ e. list_all (list_all is_solid) (alignments e)) refl

controls_solid : (element : Element) → list_all (list_all is_solid) (control_types element) ≡ true
controls_solid = each_element (λ e. list_all (list_all is_solid) (control_types e)) refl

words_solid : (element : Element) (a : Attr) → list_all (list_all is_solid) (words_of element a) ≡ true
words_solid element attr.Align = alignments_solid element
words_solid element attr.ListType = controls_solid element
words_solid element a = refl

pub keywords-solid : (element : Element) (a : Attr) → list_all (list_all is_solid) (keywords_of element a) ≡ true
keywords-solid element a = either (is_declared element a)
  where
    either : (b : Bool) → list_all (list_all is_solid) (if b then words_of element a else []) ≡ true
    either true = words_solid element a
    either false = refl

-- ---- forms that texts in ASCII alone have

pub id-ascii : (text : List ℕ) → is_id text ≡ true → list_all is_ascii text ≡ true
id-ascii text is = solid-ascii text (id-solid text is)

pub language-ascii : (text : List ℕ) → is_language text ≡ true → list_all is_ascii text ≡ true
language-ascii text is = solid-ascii text (language-solid text is)

pub font_size-ascii : (text : List ℕ) → is_font_size text ≡ true → list_all is_ascii text ≡ true
font_size-ascii text is = solid-ascii text (font_size-solid text is)

pub token-ascii : (kind : TokenKind) (token : List ℕ) → passes kind token ≡ true → list_all is_ascii token ≡ true
token-ascii kind token is = solid-ascii token (token-solid kind token is)

pub bare-ascii : (text : List ℕ) → is_bare text ≡ true → list_all is_ascii text ≡ true
bare-ascii text is = solid-ascii text (bare-solid text is)

pub keywords-ascii : (element : Element) (a : Attr) → list_all (list_all is_ascii) (keywords_of element a) ≡ true
keywords-ascii element a = all-weaker (list_all is_solid) (list_all is_ascii) solid-ascii (keywords_of element a) (keywords-solid element a)

pub same-ascii : (word unit : List ℕ) → list_all is_ascii word ≡ true → bytes_eq unit word ≡ true → list_all is_ascii unit ≡ true
same-ascii word unit ascii same = ap (list_all is_ascii) (same_text unit word (sym same)) ∙ ascii

pub pixel_unit-ascii : (unit : List ℕ) → is_pixel_unit unit ≡ true → list_all is_ascii unit ≡ true
pixel_unit-ascii [] is = refl
pixel_unit-ascii (c ∷ unit) is =
    lowered-ascii (c ∷ unit) (same-ascii (codes "px") (str_to_ascii_lowercase (c ∷ unit)) refl
    (ap (λ b. b || bytes_eq (str_to_ascii_lowercase (c ∷ unit)) (codes "px")) (sym (not_empty c unit)) ∙ is))

-- ---- the names of attributes

names_ascii : map (λ a. list_all is_ascii (attr_name a)) all_attrs ≡ map (λ a. true) all_attrs
names_ascii = refl

pub name-ascii : (a : Attr) → list_all is_ascii (attr_name a) ≡ true
name-ascii a = agree_at (λ a. list_all is_ascii (attr_name a)) (λ a. true) all_attrs (attr_rank a) a names_ascii (all_attrs-rank a)
