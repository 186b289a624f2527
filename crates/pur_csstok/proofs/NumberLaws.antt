-- A number's one text is read as the number.
use Rattle.std.proofs.Common.{◌≡◌, ℕ, ◌-◌, ◌<◌, ◌≤◌, Bool, true, false, cond, List, [], ◌∷◌, ◌++◌, length, take, drop, slice_index, Some, None, refl, sym, ap, subst, ◌∙◌, arith}
use Rattle.std.specs.Prelude.{◌==◌, ◌&&◌, ◌||◌, not, Option, option_map}
use Rattle.std.specs.List.{list_all, prefix_len, suffix_len}
use Rattle.std.proofs.lemmas.Bool.{cond-true, cond-false, and_parts, and_from}
use Rattle.std.proofs.lemmas.Bool.Decides.{nat_tests}
use Rattle.std.proofs.lemmas.List.{take_all, take_at, drop_at, length-take, length-append}
use Rattle.pur_csstok.specs.Numbers.{Number, is_digit, is_zero, behind_sign, front_digits, behind_digits, is_fraction, is_numeral, without_leading_zeros, without_trailing_zeros, is_nought, number_with, whole_digits, fraction_digits, number_written, is_permitted, number_of, sign_text, whole_text, fraction_text, number_text, number_read}
use Rattle.pur_csstok.proofs.DigitLemmas.{whole-digits, fraction-digits}
use Rattle.std.proofs.lemmas.Option.{same_Some}
use Rattle.pur_laws.proofs.Ends.{front_gone, front_settled, end_gone, end_settled, front_len}
use Rattle.pur_laws.proofs.Tests.{kept, not_empty}

-- a number in its one form
pub record IsSettled (signed : Bool) (number : Number) : Type 0 where
  pub whole : list_all is_digit number.whole ≡ true
  pub fraction : list_all is_digit number.fraction ≡ true
  pub front : without_leading_zeros number.whole ≡ number.whole
  pub end : without_trailing_zeros number.fraction ≡ number.fraction
  pub short : length number.fraction ≤ 4
  pub minus : (number.negative && not (is_nought number.whole number.fraction)) ≡ number.negative
  pub permitted : is_permitted signed number ≡ true

twice_and : (a b : Bool) → ((a && b) && b) ≡ (a && b)
twice_and true true = refl
twice_and true false = refl
twice_and false b = refl

-- ---- what is read is settled

written_settled : (signed : Bool) (text : List ℕ) → is_numeral (behind_sign text) ≡ true → is_permitted signed (number_written text) ≡ true → IsSettled signed (number_written text)
written_settled signed text numeral permitted =
    let body = behind_sign text in
    let four = take 4 (drop 1 (behind_digits body)) in
    record {
      whole = whole-digits body;
      fraction = fraction-digits body numeral;
      front = front_settled is_zero (whole_digits body) (front_gone is_zero (front_digits body));
      end = end_settled is_zero (fraction_digits body) (end_gone is_zero four);
      short = omega (arith, length-take (length four - suffix_len is_zero four) four, length-take 4 (drop 1 (behind_digits body)));
      minus = twice_and (slice_index text 0 == 0x2D) (not (is_nought (whole_digits body) (fraction_digits body)));
      permitted = permitted;
    }

pub read_settled : (signed : Bool) (text : List ℕ) (number : Number) → number_of signed text ≡ Some number → IsSettled signed number
unfolding number_of
read_settled signed text number e =
    let is = kept (is_numeral (behind_sign text) && is_permitted signed (number_written text)) (number_written text) number e in
    let both = and_parts _ _ is.0 in
    subst (IsSettled signed) is.1 (written_settled signed text both.0 both.1)

-- ---- what is settled is read again

whole-is : (c : ℕ) (digits : List ℕ) → whole_text (c ∷ digits) ≡ c ∷ digits
whole-is c digits = cond-false _ _ _ (not_empty c digits)

pub fraction-text : (c : ℕ) (digits : List ℕ) → fraction_text (c ∷ digits) ≡ 0x2E ∷ c ∷ digits
fraction-text c digits = cond-false _ _ _ (not_empty c digits)

pub whole-some : (digits : List ℕ) → 0 < length (whole_text digits)
whole-some [] = omega arith
whole-some (c ∷ digits) = let some : 0 < length (c ∷ digits) = omega arith in subst (λ t. 0 < length t) (sym (whole-is c digits)) some

pub whole-all : (digits : List ℕ) → list_all is_digit digits ≡ true → list_all is_digit (whole_text digits) ≡ true
whole-all [] all = refl
whole-all (c ∷ digits) all = ap (list_all is_digit) (whole-is c digits) ∙ all

whole-zeros : (digits : List ℕ) → without_leading_zeros digits ≡ digits → without_leading_zeros (whole_text digits) ≡ digits
whole-zeros [] e = refl
whole-zeros (c ∷ digits) e = ap without_leading_zeros (whole-is c digits) ∙ e

fraction-stops : (digits : List ℕ) → prefix_len is_digit (fraction_text digits) ≡ 0
fraction-stops [] = refl
fraction-stops (c ∷ digits) = ap (prefix_len is_digit) (fraction-text c digits)

fraction-digits_back : (digits : List ℕ) → drop 1 (fraction_text digits) ≡ digits
fraction-digits_back [] = refl
fraction-digits_back (c ∷ digits) = ap (drop 1) (fraction-text c digits)

fraction-is : (digits rest : List ℕ) → list_all is_digit digits ≡ true → 0 < length rest
    → cond (length (fraction_text digits) == 0) (not (length rest == 0)) (is_fraction (fraction_text digits)) ≡ true
fraction-is [] rest all some = grind (arith, nat_tests)
fraction-is (c ∷ digits) rest all some =
    let text = 0x2E ∷ c ∷ digits in
    let is : is_fraction text ≡ true = and_from (not (length (c ∷ digits) == 0)) (list_all is_digit (c ∷ digits)) (ap not (not_empty c digits)) all in
    ap (λ t. cond (length t == 0) (not (length rest == 0)) (is_fraction t)) (fraction-text c digits)
    ∙ cond-false _ _ _ (not_empty 0x2E (c ∷ digits)) ∙ is

-- the parts of the text behind the sign
module _ (number : Number) (whole : list_all is_digit number.whole ≡ true) where
  body-len : prefix_len is_digit (whole_text number.whole ++ fraction_text number.fraction) ≡ length (whole_text number.whole)
  body-len = front_len is_digit (whole_text number.whole) (fraction_text number.fraction) (whole-all number.whole whole) (fraction-stops number.fraction)

  pub body-front : front_digits (whole_text number.whole ++ fraction_text number.fraction) ≡ whole_text number.whole
  body-front = take_at (whole_text number.whole) (fraction_text number.fraction) _ (sym body-len)

  pub body-behind : behind_digits (whole_text number.whole ++ fraction_text number.fraction) ≡ fraction_text number.fraction
  body-behind = drop_at (whole_text number.whole) (fraction_text number.fraction) _ (sym body-len)

-- the first byte of the text behind the sign is a digit, and no sign
no_sign : (c : ℕ) → is_digit c ≡ true → (c == 0x2B || c == 0x2D) ≡ false
no_sign c is = grind (arith, nat_tests)

no_minus : (c : ℕ) → is_digit c ≡ true → (c == 0x2D) ≡ false
no_minus c is = grind (arith, nat_tests)

first_digit : (digits rest : List ℕ) → list_all is_digit digits ≡ true → is_digit (slice_index (whole_text digits ++ rest) 0) ≡ true
first_digit [] rest all = refl
first_digit (c ∷ digits) rest all =
    ap (λ t. is_digit (slice_index (t ++ rest) 0)) (whole-is c digits) ∙ (and_parts (is_digit c) (list_all is_digit digits) all).0

sign_behind : (negative : Bool) (rest : List ℕ) → is_digit (slice_index rest 0) ≡ true → behind_sign (sign_text negative ++ rest) ≡ rest
sign_behind true rest digit = refl
sign_behind false rest digit = cond-false _ _ _ (no_sign (slice_index rest 0) digit)

sign_minus : (negative : Bool) (rest : List ℕ) → is_digit (slice_index rest 0) ≡ true → (slice_index (sign_text negative ++ rest) 0 == 0x2D) ≡ negative
sign_minus true rest digit = refl
sign_minus false rest digit = no_minus (slice_index rest 0) digit

pub settled_read : (signed : Bool) (number : Number) → IsSettled signed number → number_of signed (number_text number) ≡ Some number
unfolding number_of number_text
settled_read signed number is =
    let rest = whole_text number.whole ++ fraction_text number.fraction in
    let text = sign_text number.negative ++ rest in
    let digit = first_digit number.whole (fraction_text number.fraction) is.whole in
    let behind : behind_sign text ≡ rest = sign_behind number.negative rest digit in
    let front = body-front number is.whole in
    let back = body-behind number is.whole in
    let some : 0 < length rest = omega (arith, whole-some number.whole, length-append (whole_text number.whole) (fraction_text number.fraction)) in
    let numeral : is_numeral (behind_sign text) ≡ true =
    ap is_numeral behind ∙ ap (λ t. cond (length t == 0) (not (length rest == 0)) (is_fraction t)) back ∙ fraction-is number.fraction rest is.fraction some in
    let whole : whole_digits (behind_sign text) ≡ number.whole =
    ap whole_digits behind ∙ ap without_leading_zeros front ∙ whole-zeros number.whole is.front in
    let fraction : fraction_digits (behind_sign text) ≡ number.fraction =
    ap fraction_digits behind ∙ ap (λ t. without_trailing_zeros (take 4 (drop 1 t))) back
    ∙ ap (λ t. without_trailing_zeros (take 4 t)) (fraction-digits_back number.fraction)
    ∙ ap without_trailing_zeros (take_all 4 number.fraction is.short) ∙ is.end in
    let minus = sign_minus number.negative rest digit in
    let written : number_written text ≡ number =
    ap (λ m. number_with m (whole_digits (behind_sign text)) (fraction_digits (behind_sign text))) minus
    ∙ ap (λ w. number_with number.negative w (fraction_digits (behind_sign text))) whole
    ∙ ap (λ f. number_with number.negative number.whole f) fraction
    ∙ ap (λ m. record { negative = m; whole = number.whole; fraction = number.fraction }) is.minus in
    let permitted : is_permitted signed (number_written text) ≡ true = ap (is_permitted signed) written ∙ is.permitted in
    cond-true _ _ _ (and_from _ _ numeral permitted) ∙ ap (λ (n : Number). Some n) written

-- ---- the law

-- what is read is the text of such a number
pub number_is : (signed : Bool) (P : List ℕ → Type 0) → ((number : Number) → IsSettled signed number → P (number_text number))
    → (text out : List ℕ) → number_read signed text ≡ Some out → P out
number_is signed P holds text out e = go (number_of signed text) refl e where
  go : (found : Option Number) → number_of signed text ≡ found → option_map number_text found ≡ Some out → P out
  go None is e = absurd cc
  go (Some number) is e = subst P (same_Some (number_text number) out e) (holds number (read_settled signed text number is))

pub number-again : (signed : Bool) (text out : List ℕ) → number_read signed text ≡ Some out → number_read signed out ≡ Some out
number-again signed = number_is signed (λ t. number_read signed t ≡ Some t) (λ number is. ap (option_map number_text) (settled_read signed number is))
