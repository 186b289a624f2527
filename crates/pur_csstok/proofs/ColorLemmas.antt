-- Numbers that stop growing at 255, and lists of too many parts.
use Rattle.std.proofs.Common.{◌≡◌, ℕ, ◌+◌, ◌*◌, ◌<◌, ◌≤◌, true, false, List, [], ◌∷◌, length, drop, get_or, min, None, refl, sym, ap, ◌∙◌, arith, IsUtf8}
use Rattle.std.specs.Prelude.{◌==◌}
use Rattle.std.specs.Char.{digit_value}
use Rattle.std.specs.List.{list_all}
use Rattle.std.specs.Str.Parse.{digits_value_after}
use Rattle.std.proofs.lemmas.Bool.Decides.{nat_tests}
use Rattle.std.proofs.lemmas.List.{drop_more, drop_all}
use Rattle.std.proofs.lemmas.List.Splits.{length-slice_split}
use Rattle.pur_laws.proofs.Lists.{all-weaker}
use Rattle.pur_laws.proofs.Texts.{is_ascii, same_chars, utf8_ascii}
use Rattle.std.specs.Str.{chars}
use Rattle.pur_csstok.specs.Numbers.{are_digits}
use Rattle.pur_csstok.proofs.DigitLemmas.{digits-ascii}
use Rattle.pur_csstok.specs.Colors.{is_hex_digit, between_commas, parts_read}

pub hex-ascii : (c : ℕ) → is_hex_digit c ≡ true → is_ascii c ≡ true
hex-ascii c is = grind (arith, nat_tests)

pub hex-text : (digits : List ℕ) → list_all is_hex_digit digits ≡ true → IsUtf8 digits
hex-text digits all = utf8_ascii digits (all-weaker is_hex_digit is_ascii hex-ascii digits all)

abbrev pub capped : ℕ → ℕ
capped n = min n 255

value_capped : (n m : ℕ) (text : List ℕ) → capped n ≡ capped m → capped (digits_value_after 10 n text) ≡ capped (digits_value_after 10 m text)
value_capped n m [] same = same
value_capped n m (c ∷ text) same = value_capped (n * 10 + digit_value c) (m * 10 + digit_value c) text (omega arith)

-- one digit more
pub digit_taken : (n i b more : ℕ) (text : List ℕ) → i < length text → b ≡ get_or text i 0 → more ≡ capped (n * 10 + digit_value b)
    → (w : ℕ) → capped (digits_value_after 10 n (drop i text)) ≡ w → capped (digits_value_after 10 more (drop (i + 1) text)) ≡ w
digit_taken n i b more text within is more_is w so_far =
    let front : drop i text ≡ b ∷ drop (i + 1) text = drop_more text i 0 within ∙ ap (λ c. c ∷ drop (i + 1) text) (sym is) in
    value_capped more (n * 10 + digit_value b) (drop (i + 1) text) (omega arith)
    ∙ ap (λ t. capped (digits_value_after 10 n t)) (sym front) ∙ so_far

pub digits_taken : (n i : ℕ) (text : List ℕ) → n ≤ 255 → length text ≤ i → (w : ℕ) → capped (digits_value_after 10 n (drop i text)) ≡ w → n ≡ w
digits_taken n i text small ended w so_far =
    let same : n ≡ capped n = omega arith in
    same ∙ ap (λ t. capped (digits_value_after 10 n t)) (sym (drop_all i text ended)) ∙ so_far

-- a text with a comma in its third piece has no reading
pub too_many : (text behind blue rest red green first : List ℕ) → between_commas text ≡ red ∷ between_commas behind
    → between_commas behind ≡ green ∷ between_commas blue → between_commas blue ≡ first ∷ between_commas rest
    → None ≡ parts_read (between_commas text)
unfolding parts_read
too_many text behind blue rest red green first one two three =
    let parts = red ∷ green ∷ first ∷ between_commas rest in
    let all : between_commas text ≡ parts = one ∙ ap (λ t. red ∷ t) (two ∙ ap (λ t. green ∷ t) three) in
    let four = length-slice_split (λ c. c == 0x2C) rest in
    let more : (length parts == 3) ≡ false = grind (arith, nat_tests, four) in
    rw (all, more) refl

-- the digits of a part are the same as bytes and as characters
pub part_same : (text digits : List ℕ) → IsUtf8 text → chars text ≡ digits → are_digits digits ≡ true → text ≡ digits
part_same text digits is same all =
    let ascii : list_all is_ascii (chars text) ≡ true = ap (list_all is_ascii) same ∙ digits-ascii digits all in
    sym (same_chars text is ascii) ∙ same
