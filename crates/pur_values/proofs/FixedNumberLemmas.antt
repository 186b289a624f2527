-- Numbers and lengths are read as themselves.
use Rattle.std.proofs.Common.{◌≡◌, ℕ, ◌+◌, ◌%◌, ◌^◌, ◌<◌, ◌≤◌, true, false, not, List, [], ◌∷◌, ◌++◌, length, take, drop, min, Option, Some, None, refl, sym, ap, subst, ◌∙◌, arith, ⊎_elim, lit<}
use Rattle.std.specs.Prelude.{codes, nat_le}
use Rattle.std.specs.Fmt.{decimal}
use Rattle.std.specs.List.{list_all, prefix_len}
use Rattle.std.specs.Str.{bytes_eq}
use Rattle.std.proofs.Math.Seq.{take-append_seam, drop-append_seam}
use Rattle.std.proofs.lemmas.Bool.{cases_Bool, cond-true, cond-false, and_from}
use Rattle.std.proofs.lemmas.Bool.Decides.{nat_tests}
use Rattle.std.proofs.lemmas.Fmt.{decimal_is_IsNumeral, decimal_by_steps, decimal_nonempty}
use Rattle.pur_text.specs.Trimming.{trimmed}
use Rattle.pur_values.specs.Numbers.{numeral, at_most, number_of, from_least, measure, pixels, pixels_or_part, pixels_part_or_share, shares, is_empty, is_pixel_unit, digits_of, unit_of, pixels_of, length_of, multi_length_of}
use Rattle.pur_values.specs.Words.{is_digit}
use Rattle.pur_laws.proofs.Ends.{front_len}
use Rattle.pur_laws.proofs.Lists.{all-append, all-weaker}
use Rattle.pur_laws.proofs.Texts.{is_ascii}
use Rattle.pur_values.proofs.FixedLemmas.{Fixed}
use Rattle.pur_values.proofs.SolidLemmas.{is_solid, digit_solid, solid-ascii}
use Rattle.pur_values.proofs.TightLemmas.{solid-tight}

-- ---- a number that is written

last_digit : (n : ℕ) → n < 10 → is_digit (48 + n) ≡ true
last_digit n small = grind (arith, nat_tests)

pub decimal_digits : (n : ℕ) → n < 2 ^ 64 → list_all is_digit (decimal n) ≡ true
decimal_digits = decimal_by_steps (λ m ds. list_all is_digit ds ≡ true)
    (λ m small. and_from _ _ (last_digit m small) refl)
    (λ m ds large all. all-append is_digit ds ((48 + m % 10) ∷ []) all (and_from _ _ (last_digit (m % 10) (omega arith)) refl))

some_decimal : (n : ℕ) → n < 2 ^ 64 → is_empty (decimal n) ≡ false
some_decimal n small = let l : 0 < length (decimal n) = decimal_nonempty n small in grind (arith, nat_tests)

pub numeral_decimal : (n : ℕ) → n < 2 ^ 64 → numeral (decimal n) ≡ Some n
unfolding numeral
numeral_decimal n small =
    cond-true _ _ _ (and_from _ _ (decimal_digits n small) (ap not (some_decimal n small)))
    ∙ ap Some (decimal_is_IsNumeral n small).1

pub decimal-solid : (n : ℕ) → n < 2 ^ 64 → list_all is_solid (decimal n) ≡ true
decimal-solid n small = all-weaker is_digit is_solid digit_solid (decimal n) (decimal_digits n small)

-- a number and a unit are in ASCII
pub decimal-ascii : (n : ℕ) (unit : List ℕ) → n < 2 ^ 32 → list_all is_ascii unit ≡ true → list_all is_ascii (decimal n ++ unit) ≡ true
decimal-ascii n unit small ascii = all-append is_ascii (decimal n) unit (solid-ascii (decimal n) (decimal-solid n (omega arith))) ascii

-- ---- the cut behind the digits

pub digits_found : (digits unit : List ℕ) → list_all is_digit digits ≡ true → prefix_len is_digit unit ≡ 0 → digits_of (digits ++ unit) ≡ digits
digits_found digits unit all none = ap (λ n. take n (digits ++ unit)) (front_len is_digit digits unit all none) ∙ take-append_seam digits unit

pub unit_found : (digits unit : List ℕ) → list_all is_digit digits ≡ true → prefix_len is_digit unit ≡ 0 → unit_of (digits ++ unit) ≡ unit
unit_found digits unit all none = ap (λ n. drop n (digits ++ unit)) (front_len is_digit digits unit all none) ∙ drop-append_seam digits unit

-- ---- what a measure is

-- a number that is small enough, and a unit
pub record IsMeasure (most : ℕ) (unit text : List ℕ) : Type 0 where
  pub number : ℕ
  pub small : number ≤ most
  pub text_is : text ≡ decimal number ++ unit

pub measured : (most : ℕ) (unit text : List ℕ) (number : Option ℕ) → measure most unit number ≡ Some text → IsMeasure most unit text
measured most unit text None is = absurd (cc)
measured most unit text (Some n) is = record { number = min n most; small = omega arith; text_is = (let e : at_most most n ++ unit ≡ text = cc in sym e) }

record IsRead (most : ℕ) (unit text : List ℕ) : Type 0 where
  pub digits : List ℕ
  pub digits_are : digits_of text ≡ digits
  pub unit_is : unit_of text ≡ unit
  pub measured_again : measure most unit (numeral digits) ≡ Some text
  pub some_digits : is_empty digits ≡ false
  pub tight : trimmed text ≡ text

read_again : (most : ℕ) (unit text : List ℕ) → most < 2 ^ 64 → prefix_len is_digit unit ≡ 0 → list_all is_solid unit ≡ true → IsMeasure most unit text → IsRead most unit text
read_again most unit text fits no_digit other m =
    let small : m.number < 2 ^ 64 = (let s = m.small in omega (arith, s, fits)) in
    let all = decimal_digits m.number small in
    let whole : min m.number most ≡ m.number = (let s = m.small in omega (arith, s)) in
    record {
      digits = decimal m.number;
      digits_are = ap digits_of m.text_is ∙ digits_found (decimal m.number) unit all no_digit;
      unit_is = ap unit_of m.text_is ∙ unit_found (decimal m.number) unit all no_digit;
      measured_again = ap (measure most unit) (numeral_decimal m.number small) ∙ ap (λ n. Some (decimal n ++ unit)) whole ∙ ap Some (sym m.text_is);
      some_digits = some_decimal m.number small;
      tight = solid-tight text (subst (λ l. list_all is_solid l ≡ true) (sym m.text_is) (all-append is_solid (decimal m.number) unit (decimal-solid m.number small) other));
    }

-- ---- pixels, lengths, shares

fixed_in_pixels : (text : List ℕ) → IsMeasure 9999 [] text → pixels_of text ≡ Some text
fixed_in_pixels text m =
    let r = read_again 9999 [] text (lit< tt) refl refl m in
    ap (λ u. pixels (digits_of text) u) r.unit_is ∙ ap (λ d. pixels d []) r.digits_are ∙ r.measured_again

pub pixels_measured : (digits unit text : List ℕ) → pixels digits unit ≡ Some text → IsMeasure 9999 [] text
pixels_measured digits unit text is = ⊎_elim
    (λ (unit_is : is_pixel_unit unit ≡ true).
    measured 9999 [] text (numeral digits) (sym (cond-true (is_pixel_unit unit) (measure 9999 [] (numeral digits)) None unit_is) ∙ is))
    (λ (other : is_pixel_unit unit ≡ false).
    absurd (let e : None ≡ Some text = sym (cond-false (is_pixel_unit unit) (measure 9999 [] (numeral digits)) None other) ∙ is in cc))
    (cases_Bool (is_pixel_unit unit))

pub fixed_pixels : (text value : List ℕ) → pixels_of text ≡ Some value → Fixed pixels_of value
fixed_pixels text value is =
    let m = pixels_measured (digits_of text) (unit_of text) value is in
    record { again = fixed_in_pixels value m; tight = (read_again 9999 [] value (lit< tt) refl refl m).tight }

abbrev pub percent : List ℕ
percent = codes "%"

abbrev pub star : List ℕ
star = codes "*"

-- a length is in pixels or a part
pub record IsLength (read : List ℕ → Option (List ℕ)) (text : List ℕ) : Type 0 where
  pub again : read text ≡ Some text
  pub tight : trimmed text ≡ text
  pub no_share : bytes_eq (unit_of text) star ≡ false

length_again : (digits unit text : List ℕ) → pixels_or_part digits unit ≡ Some text → IsLength length_of text
length_again digits unit text is = ⊎_elim
    (λ (part : bytes_eq unit percent ≡ true).
    let m = measured 100 percent text (numeral digits) (sym (cond-true (bytes_eq unit percent) (measure 100 percent (numeral digits)) (pixels digits unit) part) ∙ is) in
    let r = read_again 100 percent text (lit< tt) refl refl m in
    record {
      again = ap (λ u. pixels_or_part (digits_of text) u) r.unit_is ∙ ap (λ d. pixels_or_part d percent) r.digits_are ∙ r.measured_again;
      tight = r.tight;
      no_share = ap (λ u. bytes_eq u star) r.unit_is;
    })
    (λ (other : bytes_eq unit percent ≡ false).
    let in_pixels : pixels digits unit ≡ Some text = sym (cond-false (bytes_eq unit percent) (measure 100 percent (numeral digits)) (pixels digits unit) other) ∙ is in
    let m = pixels_measured digits unit text in_pixels in
    let r = read_again 9999 [] text (lit< tt) refl refl m in
    record {
      again = ap (λ u. pixels_or_part (digits_of text) u) r.unit_is ∙ ap (λ d. pixels_or_part d []) r.digits_are ∙ r.measured_again;
      tight = r.tight;
      no_share = ap (λ u. bytes_eq u star) r.unit_is;
    })
    (cases_Bool (bytes_eq unit percent))

pub fixed_length : (text value : List ℕ) → length_of text ≡ Some value → Fixed length_of value
fixed_length text value is =
    let l = length_again (digits_of text) (unit_of text) value is in
    record { again = l.again; tight = l.tight }

pub fixed_multi_length : (text value : List ℕ) → multi_length_of text ≡ Some value → Fixed multi_length_of value
fixed_multi_length text value is =
    let digits = digits_of text in
    let unit = unit_of text in
    ⊎_elim
    (λ (share : bytes_eq unit star ≡ true).
    let m = measured 9999 star value (shares digits) (sym (cond-true (bytes_eq unit star) (measure 9999 star (shares digits)) (pixels_or_part digits unit) share) ∙ is) in
    let r = read_again 9999 star value (lit< tt) refl refl m in
    let counted : shares r.digits ≡ numeral r.digits = cond-false (is_empty r.digits) (Some 1) (numeral r.digits) r.some_digits in
    record {
      again = ap (λ u. pixels_part_or_share (digits_of value) u) r.unit_is ∙ ap (λ d. pixels_part_or_share d star) r.digits_are
          ∙ ap (measure 9999 star) counted ∙ r.measured_again;
      tight = r.tight;
    })
    (λ (other : bytes_eq unit star ≡ false).
    let l = length_again digits unit value (sym (cond-false (bytes_eq unit star) (measure 9999 star (shares digits)) (pixels_or_part digits unit) other) ∙ is) in
    record {
      again = cond-false (bytes_eq (unit_of value) star) (measure 9999 star (shares (digits_of value))) (pixels_or_part (digits_of value) (unit_of value)) l.no_share ∙ l.again;
      tight = l.tight;
    })
    (cases_Bool (bytes_eq unit star))

-- ---- numbers

le_test : (a b : ℕ) → a ≤ b → nat_le a b ≡ true
le_test a b h = grind (arith, nat_tests)

from_test : (a b : ℕ) → nat_le a b ≡ true → a ≤ b
from_test a b h = grind (arith, nat_tests)

number_again : (least most n : ℕ) → least ≤ most → most < 2 ^ 64 → least ≤ n → n ≤ most → Fixed (number_of least most) (decimal n)
number_again least most n bounds fits above below =
    let small : n < 2 ^ 64 = omega arith in
    let whole : min n most ≡ n = omega arith in
    record {
      again = ap (from_least least most) (numeral_decimal n small) ∙ cond-true (nat_le least n) _ _ (le_test least n above) ∙ ap (λ k. Some (decimal k)) whole;
      tight = solid-tight (decimal n) (decimal-solid n small);
    }

number_read : (least most : ℕ) (number : Option ℕ) (value : List ℕ) → least ≤ most → most < 2 ^ 64 → from_least least most number ≡ Some value → Fixed (number_of least most) value
number_read least most None value bounds fits is = absurd (cc)
number_read least most (Some n) value bounds fits is = ⊎_elim
    (λ (above : nat_le least n ≡ true).
    let written : Some (at_most most n) ≡ Some value = sym (cond-true (nat_le least n) (Some (at_most most n)) None above) ∙ is in
    let same : at_most most n ≡ value = cc in
    let low : least ≤ n = from_test least n above in
    subst (Fixed (number_of least most)) same (number_again least most (min n most) bounds fits (omega arith) (omega arith)))
    (λ (below : nat_le least n ≡ false).
    absurd (let e : None ≡ Some value = sym (cond-false (nat_le least n) (Some (at_most most n)) None below) ∙ is in cc))
    (cases_Bool (nat_le least n))

pub fixed_number : (least most : ℕ) → least ≤ most → most < 2 ^ 64 → (text value : List ℕ) → number_of least most text ≡ Some value → Fixed (number_of least most) value
fixed_number least most bounds fits text value is = number_read least most (numeral text) value bounds fits is
