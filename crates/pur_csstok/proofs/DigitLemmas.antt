-- What the digits of a number are, and what a number is made of.
use Rattle.std.proofs.Common.{◌≡◌, ℕ, ◌-◌, Bool, true, false, List, [], ◌∷◌, length, take, drop, Some, refl, sym, ap, ◌∙◌, arith, ⊎_elim, IsUtf8}
use Rattle.std.specs.Prelude.{◌==◌, ◌&&◌, ◌||◌}
use Rattle.pur_laws.proofs.Texts.{is_ascii, utf8_ascii}
use Rattle.std.specs.List.{list_all, prefix_len, suffix_len}
use Rattle.std.proofs.lemmas.Bool.{and_parts, and_from, cases_Bool, cond-true, cond-false, eqb-true}
use Rattle.std.proofs.lemmas.Bool.Decides.{nat_tests}
use Rattle.std.proofs.lemmas.List.{nil_from_length, take-append-drop}
use Rattle.pur_csstok.specs.Numbers.{Number, is_digit, is_zero, are_digits, behind_sign, front_digits, behind_digits, is_fraction, is_numeral, whole_digits, fraction_digits, number_written, is_permitted, number_of}
use Rattle.pur_csstok.specs.Lengths.{is_number_character}
use Rattle.pur_laws.proofs.Lists.{all-drop, all-take, all-prefix, all-append, all-weaker}
use Rattle.pur_laws.proofs.Tests.{kept}

pub digit-ascii : (c : ℕ) → is_digit c ≡ true → is_ascii c ≡ true
digit-ascii c is = grind (arith, nat_tests)

pub digits-text : (digits : List ℕ) → list_all is_digit digits ≡ true → IsUtf8 digits
digits-text digits all = utf8_ascii digits (all-weaker is_digit is_ascii digit-ascii digits all)

pub digits-ascii : (text : List ℕ) → are_digits text ≡ true → list_all is_ascii text ≡ true
digits-ascii text is = all-weaker is_digit is_ascii digit-ascii text (and_parts _ _ is).1

-- ---- the digits

pub whole-digits : (text : List ℕ) → list_all is_digit (whole_digits text) ≡ true
whole-digits text = all-drop is_digit (prefix_len is_zero (front_digits text)) (front_digits text) (all-prefix is_digit text)

behind_point : (text : List ℕ) → is_numeral text ≡ true → list_all is_digit (drop 1 (behind_digits text)) ≡ true
behind_point text is =
    let behind = behind_digits text in
    ⊎_elim
    (λ (none : (length behind == 0) ≡ true). rw (nil_from_length behind (eqb-true _ _ none)) refl)
    (λ (some : (length behind == 0) ≡ false).
    let fraction : is_fraction behind ≡ true = sym (cond-false _ _ _ some) ∙ is in
    (and_parts _ _ (and_parts _ _ fraction).1).1)
    (cases_Bool (length behind == 0))

pub fraction-digits : (text : List ℕ) → is_numeral text ≡ true → list_all is_digit (fraction_digits text) ≡ true
fraction-digits text is =
    let four = take 4 (drop 1 (behind_digits text)) in
    all-take is_digit (length four - suffix_len is_zero four) four (all-take is_digit 4 (drop 1 (behind_digits text)) (behind_point text is))

-- ---- the characters of a number

pub number-ascii : (c : ℕ) → is_number_character c ≡ true → is_ascii c ≡ true
number-ascii c is = grind (arith, nat_tests)

pub digit-number : (c : ℕ) → is_digit c ≡ true → is_number_character c ≡ true
digit-number c is = grind (arith, nat_tests)

point-number : (c : ℕ) → (c == 0x2E) ≡ true → is_number_character c ≡ true
point-number c is = grind (arith, nat_tests)

sign-number : (c : ℕ) → (c == 0x2B || c == 0x2D) ≡ true → is_number_character c ≡ true
sign-number c is = grind (arith, nat_tests)

fraction-all : (text : List ℕ) → is_fraction text ≡ true → list_all is_number_character text ≡ true
fraction-all [] is = refl
fraction-all (c ∷ digits) is =
    let both = and_parts (c == 0x2E) (are_digits digits) is in
    and_from _ _ (point-number c both.0) (all-weaker is_digit is_number_character digit-number digits (and_parts _ _ both.1).1)

numeral-all : (text : List ℕ) → is_numeral text ≡ true → list_all is_number_character text ≡ true
numeral-all text is =
    let behind = behind_digits text in
    let front = all-weaker is_digit is_number_character digit-number (front_digits text) (all-prefix is_digit text) in
    let back : list_all is_number_character behind ≡ true =
    ⊎_elim
    (λ (none : (length behind == 0) ≡ true). rw (nil_from_length behind (eqb-true _ _ none)) refl)
    (λ (some : (length behind == 0) ≡ false). fraction-all behind (sym (cond-false _ _ _ some) ∙ is))
    (cases_Bool (length behind == 0)) in
    ap (list_all is_number_character) (sym (take-append-drop (prefix_len is_digit text) text)) ∙ all-append is_number_character (front_digits text) behind front back

signed-all : (text : List ℕ) → list_all is_number_character (behind_sign text) ≡ true → list_all is_number_character text ≡ true
signed-all [] all = refl
signed-all (c ∷ text) all = ⊎_elim
    (λ (sign : (c == 0x2B || c == 0x2D) ≡ true).
    and_from _ _ (sign-number c sign) (ap (list_all is_number_character) (sym (cond-true _ _ _ sign)) ∙ all))
    (λ (none : (c == 0x2B || c == 0x2D) ≡ false). ap (list_all is_number_character) (sym (cond-false _ _ _ none)) ∙ all)
    (cases_Bool (c == 0x2B || c == 0x2D))

pub number_of-all : (signed : Bool) (text : List ℕ) (number : Number) → number_of signed text ≡ Some number → list_all is_number_character text ≡ true
unfolding number_of
number_of-all signed text number e =
    let is = kept (is_numeral (behind_sign text) && is_permitted signed (number_written text)) (number_written text) number e in
    signed-all text (numeral-all (behind_sign text) (and_parts _ _ is.0).0)
