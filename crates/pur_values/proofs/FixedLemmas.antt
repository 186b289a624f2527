-- What a value is read as is read as itself: words, languages and colours.
use Rattle.std.proofs.Common.{◌≡◌, ℕ, suc, ◌+◌, Bool, true, false, not, ◌&&◌, ◌||◌, cond, List, [], ◌∷◌, length, take, map, Option, Some, refl, sym, ap, subst, ◌∙◌, arith, ⊎_elim}
use Rattle.std.specs.Prelude.{nat_le, ◌==◌}
use Rattle.std.specs.Char.{to_ascii_lowercase}
use Rattle.std.specs.List.{list_all, prefix_len, slice_split, onto_first}
use Rattle.std.specs.Str.{str_to_ascii_lowercase}
use Rattle.std.proofs.lemmas.Bool.{cases_Bool, cond-true, cond-false, and_parts, and_from, not-true}
use Rattle.std.proofs.lemmas.Bool.Decides.{nat_tests}
use Rattle.std.proofs.lemmas.List.{take-map}
use Rattle.std.proofs.lemmas.Str.Ascii.{lowercase-lowercase}
use Rattle.pur_laws.proofs.Tests.{kept, all-named}
use Rattle.pur_text.specs.Trimming.{trimmed}
use Rattle.pur_csstok.specs.Atoms.{is_color}
use Rattle.pur_csstok.specs.Colors.{color_read}
use Rattle.pur_values.specs.Choices.{lowered_among, bullets, numberings, bullet_of, numbering_of, item_of}
use Rattle.pur_values.specs.Colors.{color_of, is_bare, is_hex_digit}
use Rattle.pur_values.specs.Tokens.{is_language, is_subtag, before_dash}
use Rattle.pur_values.specs.Words.{is_among, is_letter, is_letter_or_digit, kept_where}
use Rattle.pur_values.proofs.SolidLemmas.{is_solid, color-solid, numbering-solid}
use Rattle.pur_values.proofs.TightLemmas.{solid-tight}

-- the text is read as itself, and has no white space at its ends
pub record Fixed (read : List ℕ → Option (List ℕ)) (text : List ℕ) : Type 0 where
  pub again : read text ≡ Some text
  pub tight : trimmed text ≡ text

-- ---- texts that are kept where they have a form

pub fixed_kept : (test : List ℕ → Bool) → ((text : List ℕ) → test text ≡ true → list_all is_solid text ≡ true)
    → (text value : List ℕ) → kept_where (test text) text ≡ Some value → Fixed (λ l. kept_where (test l) l) value
fixed_kept test solid text value is =
    let k = kept (test text) text value is in
    subst (Fixed (λ l. kept_where (test l) l)) k.1 (record { again = cond-true _ _ _ k.0; tight = solid-tight text (solid text k.0) })

pub lowered_twice : (text : List ℕ) → str_to_ascii_lowercase (str_to_ascii_lowercase text) ≡ str_to_ascii_lowercase text
lowered_twice [] = refl
lowered_twice (c ∷ text) =
    let first : to_ascii_lowercase (to_ascii_lowercase c) ≡ to_ascii_lowercase c = lowercase-lowercase c in
    let behind = lowered_twice text in
    cc

-- a form that a text has in lower case where it has it
pub fixed_lowered : (test : List ℕ → Bool) → ((text : List ℕ) → test text ≡ true → test (str_to_ascii_lowercase text) ≡ true)
    → ((text : List ℕ) → test text ≡ true → list_all is_solid text ≡ true)
    → (text value : List ℕ) → kept_where (test text) (str_to_ascii_lowercase text) ≡ Some value
    → Fixed (λ l. kept_where (test l) (str_to_ascii_lowercase l)) value
fixed_lowered test lowers solid text value is =
    let low = str_to_ascii_lowercase text in
    let k = kept (test text) low value is in
    let form = lowers text k.0 in
    subst (Fixed (λ l. kept_where (test l) (str_to_ascii_lowercase l))) k.1
    (record { again = cond-true _ _ _ form ∙ ap Some (lowered_twice text); tight = solid-tight low (solid low form) })

pub fixed_among : (words : List (List ℕ)) → list_all (list_all is_solid) words ≡ true → (text value : List ℕ) → lowered_among words text ≡ Some value
    → Fixed (lowered_among words) value
fixed_among words solid text value is =
    let low = str_to_ascii_lowercase text in
    let k = kept (is_among words low) low value is in
    subst (Fixed (lowered_among words)) k.1
    (record {
      again = ap (λ l. kept_where (is_among words l) l) (lowered_twice text) ∙ cond-true _ _ _ k.0;
      tight = solid-tight low (all-named (list_all is_solid) words low solid k.0);
    })

pub fixed_bullet : (text value : List ℕ) → bullet_of text ≡ Some value → Fixed bullet_of value
fixed_bullet text value is = fixed_among bullets refl text value is

pub fixed_numbering : (text value : List ℕ) → numbering_of text ≡ Some value → Fixed numbering_of value
fixed_numbering text value is = fixed_kept (is_among numberings) numbering-solid text value is

pub fixed_item : (text value : List ℕ) → item_of text ≡ Some value → Fixed item_of value
fixed_item text value is = ⊎_elim
    (λ (number : is_among numberings text ≡ true).
    let numbered : numbering_of text ≡ Some value = sym (cond-true (is_among numberings text) (numbering_of text) (bullet_of text) number) ∙ is in
    let fixed = fixed_numbering text value numbered in
    let k = kept (is_among numberings text) text value numbered in
    let form : is_among numberings value ≡ true = ap (is_among numberings) (sym k.1) ∙ k.0 in
    record { again = cond-true (is_among numberings value) (numbering_of value) (bullet_of value) form ∙ fixed.again; tight = fixed.tight })
    (λ (other : is_among numberings text ≡ false).
    let bullet : bullet_of text ≡ Some value = sym (cond-false (is_among numberings text) (numbering_of text) (bullet_of text) other) ∙ is in
    let fixed = fixed_bullet text value bullet in
    let k = kept (is_among bullets (str_to_ascii_lowercase text)) (str_to_ascii_lowercase text) value bullet in
    let form : is_among bullets value ≡ true = ap (is_among bullets) (sym k.1) ∙ k.0 in
    let isnt : is_among numberings value ≡ false = not-true _ (all-named (λ w. not (is_among numberings w)) bullets value refl form) in
    record { again = cond-false (is_among numberings value) (numbering_of value) (bullet_of value) isnt ∙ fixed.again; tight = fixed.tight })
    (cases_Bool (is_among numberings text))

-- ---- languages in lower case

lower_letter : (c : ℕ) → is_letter c ≡ true → is_letter (to_ascii_lowercase c) ≡ true
lower_letter c is = grind (arith, nat_tests)

lower_either : (c : ℕ) → is_letter_or_digit c ≡ true → is_letter_or_digit (to_ascii_lowercase c) ≡ true
lower_either c is = grind (arith, nat_tests)

lower_dash : (c : ℕ) → (to_ascii_lowercase c == 0x2D) ≡ (c == 0x2D)
lower_dash c = grind (arith, nat_tests)

all_lowered : (test : ℕ → Bool) (text : List ℕ) → ((c : ℕ) → test c ≡ true → test (to_ascii_lowercase c) ≡ true) → list_all test text ≡ true
    → list_all test (str_to_ascii_lowercase text) ≡ true
all_lowered test [] same all = refl
all_lowered test (c ∷ text) same all = and_from _ _ (same c (and_parts _ _ all).0) (all_lowered test text same (and_parts _ _ all).1)

length_lowered : (text : List ℕ) → length (str_to_ascii_lowercase text) ≡ length text
length_lowered [] = refl
length_lowered (c ∷ text) = ap suc (length_lowered text)

subtag_lowered : (piece : List ℕ) → is_subtag piece ≡ true → is_subtag (str_to_ascii_lowercase piece) ≡ true
subtag_lowered piece is =
    and_from _ _ (subst (λ n. (nat_le 1 n && nat_le n 8) ≡ true) (sym (length_lowered piece)) (and_parts _ _ is).0)
    (all_lowered is_letter_or_digit piece lower_either (and_parts _ _ is).1)

onto_lowered : (c : ℕ) (pieces : List (List ℕ)) → onto_first (to_ascii_lowercase c) (map str_to_ascii_lowercase pieces) ≡ map str_to_ascii_lowercase (onto_first c pieces)
onto_lowered c [] = refl
onto_lowered c (piece ∷ pieces) = refl

abbrev is_dash : ℕ → Bool
is_dash c = c == 0x2D

split_lowered : (text : List ℕ) → slice_split is_dash (str_to_ascii_lowercase text) ≡ map str_to_ascii_lowercase (slice_split is_dash text)
split_lowered [] = refl
split_lowered (c ∷ text) =
    let behind = split_lowered text in
    ⊎_elim
    (λ (dash : is_dash c ≡ true).
    cond-true (is_dash (to_ascii_lowercase c)) _ _ (lower_dash c ∙ dash) ∙ ap (λ l. [] ∷ l) behind
    ∙ sym (ap (map str_to_ascii_lowercase) (cond-true (is_dash c) ([] ∷ slice_split is_dash text) (onto_first c (slice_split is_dash text)) dash)))
    (λ (other : is_dash c ≡ false).
    cond-false (is_dash (to_ascii_lowercase c)) _ _ (lower_dash c ∙ other) ∙ ap (onto_first (to_ascii_lowercase c)) behind
    ∙ onto_lowered c (slice_split is_dash text)
    ∙ sym (ap (map str_to_ascii_lowercase) (cond-false (is_dash c) ([] ∷ slice_split is_dash text) (onto_first c (slice_split is_dash text)) other)))
    (cases_Bool (is_dash c))

subtags_lowered : (pieces : List (List ℕ)) → list_all is_subtag pieces ≡ true → list_all is_subtag (map str_to_ascii_lowercase pieces) ≡ true
subtags_lowered [] all = refl
subtags_lowered (piece ∷ pieces) all = and_from _ _ (subtag_lowered piece (and_parts _ _ all).0) (subtags_lowered pieces (and_parts _ _ all).1)

prefix_lowered : (text : List ℕ) → prefix_len (λ c. not (c == 0x2D)) (str_to_ascii_lowercase text) ≡ prefix_len (λ c. not (c == 0x2D)) text
prefix_lowered [] = refl
prefix_lowered (c ∷ text) =
    ap (λ b. cond (not b) (1 + prefix_len (λ c. not (c == 0x2D)) (str_to_ascii_lowercase text)) 0) (lower_dash c)
    ∙ ap (λ n. cond (not (c == 0x2D)) (1 + n) 0) (prefix_lowered text)

before_lowered : (text : List ℕ) → before_dash (str_to_ascii_lowercase text) ≡ str_to_ascii_lowercase (before_dash text)
before_lowered text =
    ap (λ n. take n (str_to_ascii_lowercase text)) (prefix_lowered text)
    ∙ take-map to_ascii_lowercase (prefix_len (λ c. not (c == 0x2D)) text) text

pub language_lowered : (text : List ℕ) → is_language text ≡ true → is_language (str_to_ascii_lowercase text) ≡ true
language_lowered text is =
    and_from _ _
    (subst (λ l. list_all is_subtag l ≡ true) (sym (split_lowered text)) (subtags_lowered (slice_split is_dash text) (and_parts _ _ is).0))
    (subst (λ l. list_all is_letter l ≡ true) (sym (before_lowered text)) (all_lowered is_letter (before_dash text) lower_letter (and_parts _ _ is).1))

-- ---- colours

mark_no_digit : (c : ℕ) → (c == 0x23) ≡ true → is_hex_digit c ≡ false
mark_no_digit c is = grind (arith, nat_tests)

last_false : (b : Bool) → (b && false) ≡ false
last_false true = refl
last_false false = refl

-- a colour in its one form has its `#`
color_not_bare : (text : List ℕ) → is_color text ≡ true → is_bare text ≡ false
color_not_bare [] is = absurd cc
color_not_bare (c ∷ digits) is =
    let mark = (and_parts (c == 0x23) (length (c ∷ digits) == 7) (and_parts (c == 0x23 && length (c ∷ digits) == 7) _ is).0).0 in
    let isnt : is_hex_digit c ≡ false = mark_no_digit c mark in
    rw isnt (last_false (length (c ∷ digits) == 3 || length (c ∷ digits) == 6))

-- the laws of a style's colours
module _
    (again : (text output : List ℕ) → color_read false text ≡ Some output → color_read false output ≡ Some output)
    (digits : (text output : List ℕ) → color_read false text ≡ Some output → is_color output ≡ true) where
  fixed_style_color : (text value : List ℕ) → color_read false text ≡ Some value → Fixed color_of value
  fixed_style_color text value is =
      let form = digits text value is in
      record { again = cond-false (is_bare value) _ _ (color_not_bare value form) ∙ again text value is; tight = solid-tight value (color-solid value form) }

  pub fixed_color : (text value : List ℕ) → color_of text ≡ Some value → Fixed color_of value
  fixed_color text value is = ⊎_elim
      (λ (bare : is_bare text ≡ true). fixed_style_color (0x23 ∷ text) value (sym (cond-true (is_bare text) _ _ bare) ∙ is))
      (λ (other : is_bare text ≡ false). fixed_style_color text value (sym (cond-false (is_bare text) _ _ other) ∙ is))
      (cases_Bool (is_bare text))
