-- Numbers that stop growing at the greatest of the code's type.
use Rattle.std.proofs.Common.{◌≡◌, ℕ, suc, ◌+◌, ◌*◌, ◌<◌, ◌≤◌, Bool, true, false, List, [], ◌∷◌, length, drop, get_or, Some, None, min, refl, sym, ap, ◌∙◌, arith, drop_of_length-le}
use Rattle.std.specs.Prelude.{◌&&◌, not, Option, if◌then◌else◌, option_map}
use Rattle.std.specs.Char.{digit_value}
use Rattle.std.specs.List.{list_all}
use Rattle.std.specs.Str.Parse.{digits_value_after}
use Rattle.std.proofs.Math.Seq.{drop-cons}
use Rattle.std.proofs.lemmas.Bool.{both_ways}
use Rattle.std.proofs.lemmas.Bool.Decides.{nat_tests}
use Rattle.std.proofs.lemmas.Bool.{and_parts}
use Rattle.pur_laws.proofs.Lists.{all-weaker}
use Rattle.pur_laws.proofs.Tests.{kept}
use Rattle.pur_laws.proofs.Texts.{is_ascii}
use Rattle.pur_values.proofs.SolidLemmas.{is_solid, digit_solid, solid-ascii}
use Rattle.pur_values.specs.Numbers.{numeral, is_empty}
use Rattle.pur_values.specs.Words.{is_digit}

abbrev pub greatest : ℕ
greatest = 4294967295

abbrev pub cut_off : ℕ → ℕ
cut_off n = min n greatest

-- the number that the text writes behind the digits of n, if it has digits alone
abbrev pub numeral_after : ℕ → List ℕ → Option ℕ
numeral_after n text = if list_all is_digit text then Some (cut_off (digits_value_after 10 n text)) else None

step_cut_off : (n v : ℕ) → cut_off (n * 10 + v) ≡ cut_off (cut_off n * 10 + v)
step_cut_off n v = omega arith

value_cut_off : (n : ℕ) (text : List ℕ) → cut_off (digits_value_after 10 n text) ≡ cut_off (digits_value_after 10 (cut_off n) text)
value_cut_off n [] = omega arith
value_cut_off n (c ∷ text) =
    let v = digit_value c in
    value_cut_off (n * 10 + v) text
    ∙ ap (λ m. cut_off (digits_value_after 10 m text)) (step_cut_off n v)
    ∙ sym (value_cut_off (cut_off n * 10 + v) text)

-- a digit is what has a value below ten
pub digit_is : (c : ℕ) → digit_value c < 10 → is_digit c ≡ true
digit_is c small = grind (arith, nat_tests)

pub digit_is_not : (c : ℕ) → 10 ≤ digit_value c → is_digit c ≡ false
digit_is_not c large = grind (arith, nat_tests)

-- one digit more
pub digit_read : (n c : ℕ) (text : List ℕ) → digit_value c < 10
    → numeral_after (cut_off (cut_off (n * 10) + digit_value c)) text ≡ numeral_after n (c ∷ text)
digit_read n c text is =
    let v = digit_value c in
    let digit : is_digit c ≡ true = digit_is c is in
    let once : cut_off (cut_off (n * 10) + v) ≡ cut_off (n * 10 + v) = omega arith in
    let value : cut_off (digits_value_after 10 (cut_off (cut_off (n * 10) + v)) text) ≡ cut_off (digits_value_after 10 (n * 10 + v) text) =
    ap (λ m. cut_off (digits_value_after 10 m text)) once ∙ sym (value_cut_off (n * 10 + v) text) in
    rw digit (ap (λ m. if list_all is_digit text then Some m else None) value)

-- the digits at a place and behind it
pub digit_read_at : (n i b more : ℕ) (text : List ℕ) → i < length text → b ≡ get_or text i 0 → digit_value b < 10
    → more ≡ cut_off (cut_off (n * 10) + digit_value b) → (o : Option ℕ) → numeral_after n (drop i text) ≡ o → numeral_after more (drop (i + 1) text) ≡ o
digit_read_at n i b more text within is digit more_is o e =
    let up : suc i ≡ i + 1 = omega arith in
    let front : drop i text ≡ b ∷ drop (i + 1) text = drop-cons text i 0 within ∙ ap (λ c. c ∷ drop (suc i) text) (sym is) ∙ ap (λ k. b ∷ drop k text) up in
    ap (λ m. numeral_after m (drop (i + 1) text)) more_is ∙ digit_read n b (drop (i + 1) text) digit ∙ ap (numeral_after n) (sym front) ∙ e

-- what is no digit
pub no_digit_at : (n i b : ℕ) (text : List ℕ) → i < length text → b ≡ get_or text i 0 → 10 ≤ digit_value b
    → (o : Option ℕ) → numeral_after n (drop i text) ≡ o → None ≡ o
no_digit_at n i b text within is large o e =
    let front : drop i text ≡ b ∷ drop (suc i) text = drop-cons text i 0 within ∙ ap (λ c. c ∷ drop (suc i) text) (sym is) in
    let fails : is_digit b ≡ false = digit_is_not b large in
    let none : numeral_after n (b ∷ drop (suc i) text) ≡ None = rw fails refl in
    sym none ∙ ap (numeral_after n) (sym front) ∙ e

-- all digits are read
pub digits_end : (n i : ℕ) (text : List ℕ) → n ≤ greatest → length text ≤ i → (o : Option ℕ) → numeral_after n (drop i text) ≡ o → Some n ≡ o
digits_end n i text small past o e =
    let same : n ≡ cut_off n = omega arith in
    ap Some same ∙ ap (numeral_after n) (sym (drop_of_length-le text past)) ∙ e

-- the whole, by the definition
pub numeral_whole : (text : List ℕ) → 0 < length text → numeral_after 0 text ≡ option_map cut_off (numeral text)
unfolding numeral
numeral_whole text some =
    let nonempty : not (is_empty text) ≡ true = grind (arith, nat_tests) in
    by (list_all is_digit text) (not (is_empty text)) nonempty
  where
    v : ℕ
    v = digits_value_after 10 0 text

    by : (digits other : Bool) → other ≡ true → (if digits then Some (cut_off v) else None) ≡ option_map cut_off (if digits && other then Some v else None)
    by true true is = refl
    by true false is = absurd (both_ways _ refl is)
    by false other is = refl

pub numeral_of_none : (text : List ℕ) → is_empty text ≡ true → numeral text ≡ None
unfolding numeral
numeral_of_none [] is = refl
numeral_of_none (c ∷ text) is = absurd (grind (arith, nat_tests))

-- the digits are in ASCII
pub numeral-ascii : (text : List ℕ) (n : ℕ) → numeral text ≡ Some n → list_all is_ascii text ≡ true
unfolding numeral
numeral-ascii text n is =
    let k = kept (list_all is_digit text && not (is_empty text)) (digits_value_after 10 0 text) n is in
    solid-ascii text (all-weaker is_digit is_solid digit_solid text (and_parts _ _ k.0).0)
