-- Numbers that stop growing at the greatest of the code's type.
use Rattle.std.proofs.Common.{◌≡◌, ℕ, suc, ◌+◌, ◌*◌, ◌<◌, ◌≤◌, true, false, List, [], ◌∷◌, length, drop, get_or, Some, None, min, filter, refl, sym, ap, ◌∙◌, arith, ⊎_elim, drop_of_length-le}
use Rattle.std.specs.Prelude.{Option, if◌then◌else◌}
use Rattle.std.specs.Char.{digit_value}
use Rattle.std.specs.List.{list_all}
use Rattle.std.specs.Str.Parse.{digits_value_after}
use Rattle.std.proofs.Math.Seq.{drop-cons}
use Rattle.std.proofs.lemmas.Bool.{cases_lt, cond-false}
use Rattle.std.proofs.lemmas.Bool.Decides.{nat_tests}
use Rattle.pur_text.specs.Characters.{is_allowed}
use Rattle.pur_entities.specs.References.{is_digit}

abbrev pub greatest : ℕ
greatest = 4294967295

abbrev pub cut_off : ℕ → ℕ
cut_off n = min n greatest

-- the number that the text writes behind the digits of n, if it has digits alone
abbrev pub numeral_after : ℕ → ℕ → List ℕ → Option ℕ
numeral_after radix n text = if list_all (is_digit radix) text then Some (cut_off (digits_value_after radix n text)) else None

times_more : (radix n : ℕ) → 2 ≤ radix → n ≤ n * radix
times_more radix n least = grind (arith)

step_cut_off : (radix n v : ℕ) → 2 ≤ radix → cut_off (n * radix + v) ≡ cut_off (cut_off n * radix + v)
step_cut_off radix n v least = ⊎_elim
    (λ (small : n < 4294967296). let same : cut_off n ≡ n = omega arith in rw same refl)
    (λ (large : 4294967296 ≤ n).
    let most : cut_off n ≡ greatest = omega arith in
    let left = times_more radix n least in
    let right = times_more radix greatest least in
    rw most (omega arith))
    (cases_lt n 4294967296)

value_cut_off : (radix n : ℕ) (text : List ℕ) → 2 ≤ radix → cut_off (digits_value_after radix n text) ≡ cut_off (digits_value_after radix (cut_off n) text)
value_cut_off radix n [] least = omega arith
value_cut_off radix n (c ∷ text) least =
    let v = digit_value c in
    value_cut_off radix (n * radix + v) text least
    ∙ ap (λ m. cut_off (digits_value_after radix m text)) (step_cut_off radix n v least)
    ∙ sym (value_cut_off radix (cut_off n * radix + v) text least)

-- one digit more
pub digit_read : (radix n c : ℕ) (text : List ℕ) → 2 ≤ radix → digit_value c < radix
    → numeral_after radix (cut_off (cut_off (n * radix) + digit_value c)) text ≡ numeral_after radix n (c ∷ text)
digit_read radix n c text least is =
    let v = digit_value c in
    let digit : is_digit radix c ≡ true = grind (arith, nat_tests) in
    let once : cut_off (cut_off (n * radix) + v) ≡ cut_off (n * radix + v) = omega arith in
    let value : cut_off (digits_value_after radix (cut_off (cut_off (n * radix) + v)) text) ≡ cut_off (digits_value_after radix (n * radix + v) text) =
    ap (λ m. cut_off (digits_value_after radix m text)) once ∙ sym (value_cut_off radix (n * radix + v) text least) in
    rw digit (ap (λ m. if list_all (is_digit radix) text then Some m else None) value)

-- the digits at a place and behind it
pub digit_read_at : (radix n i b more : ℕ) (text : List ℕ) → 2 ≤ radix → i < length text → b ≡ get_or text i 0 → digit_value b < radix
    → more ≡ cut_off (cut_off (n * radix) + digit_value b) → (o : Option ℕ) → numeral_after radix n (drop i text) ≡ o → numeral_after radix more (drop (i + 1) text) ≡ o
digit_read_at radix n i b more text least within is digit more_is o e =
    let up : suc i ≡ i + 1 = omega arith in
    let front : drop i text ≡ b ∷ drop (i + 1) text = drop-cons text i 0 within ∙ ap (λ c. c ∷ drop (suc i) text) (sym is) ∙ ap (λ k. b ∷ drop k text) up in
    ap (λ m. numeral_after radix m (drop (i + 1) text)) more_is ∙ digit_read radix n b (drop (i + 1) text) least digit ∙ ap (numeral_after radix n) (sym front) ∙ e

-- all digits are read
pub digits_end : (radix n i : ℕ) (text : List ℕ) → n ≤ greatest → length text ≤ i → (o : Option ℕ) → numeral_after radix n (drop i text) ≡ o → Some n ≡ o
digits_end radix n i text small past o e =
    let same : n ≡ cut_off n = omega arith in
    ap Some same ∙ ap (numeral_after radix n) (sym (drop_of_length-le text past)) ∙ e

-- a number that is cut off is no allowed character's
pub allowed_cut_off : (n : ℕ) → filter is_allowed (cut_off n ∷ []) ≡ filter is_allowed (n ∷ [])
allowed_cut_off n = ⊎_elim
    (λ (small : n < 4294967296). let same : cut_off n ≡ n = omega arith in ap (λ m. filter is_allowed (m ∷ [])) same)
    (λ (large : 4294967296 ≤ n).
    let most : cut_off n ≡ greatest = omega arith in
    let none : is_allowed n ≡ false = grind (arith, nat_tests) in
    ap (λ m. filter is_allowed (m ∷ [])) most ∙ sym (cond-false _ _ _ none))
    (cases_lt n 4294967296)
