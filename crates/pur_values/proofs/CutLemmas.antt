-- Texts cut at white space, and behind digits, as characters.
use Rattle.std.proofs.Common.{◌≡◌, ℕ, ◌+◌, ◌<◌, ◌≤◌, Bool, true, false, not, List, [], ◌∷◌, ◌++◌, length, take, drop, get_or, Some, None, subst, refl, sym, ap, ◌∙◌, arith, IsUtf8, encode_utf8_all, ⊎_elim}
use Rattle.std.specs.List.{list_all, prefix_len, position, position_or_len}
use Rattle.std.specs.Str.{chars, IsCharBoundary}
use Rattle.std.proofs.lemmas.Bool.{cases_Bool, cond-true, cond-false}
use Rattle.std.proofs.lemmas.Bool.Decides.{nat_tests}
use Rattle.std.proofs.lemmas.List.{take_all, take_at, drop_at, drop_more, take-append-drop, get_or-drop, length-drop}
use Rattle.std.proofs.lemmas.List.Sums.{prefix_len_stops}
use Rattle.std.proofs.lemmas.Str.{encode_ascii, encodes-chars, IsUtf8-drop, IsCharBoundary-before_ascii, IsCharBoundary-after_ascii}
use Rattle.pur_laws.proofs.Ends.{front_gone, front_len, front_boundary}
use Rattle.pur_laws.proofs.Firsts.{split-at, split-none}
use Rattle.pur_laws.proofs.Lists.{all-prefix, all-weaker}
use Rattle.pur_laws.proofs.Places.{position-found, position-missed}
use Rattle.pur_laws.proofs.Texts.{is_ascii, chars_ascii, chars_around, chars_past, text_passes}
use Rattle.pur_text.specs.Characters.{is_space}
use Rattle.pur_values.specs.Numbers.{digits_of, unit_of}
use Rattle.pur_values.specs.Tokens.{pieces}
use Rattle.pur_values.specs.Words.{is_digit}
use Rattle.pur_values.proofs.SolidLemmas.{is_other}

-- ---- at white space

space_low : (c : ℕ) → is_space c ≡ true → c < 128
space_low c is = grind (arith, nat_tests)

space_of : (b : Bool) → not b ≡ false → b ≡ true
space_of true is = refl
space_of false is = absurd cc

wide_other : (c : ℕ) → 128 ≤ c → is_other c ≡ true
wide_other c wide = grind (arith, nat_tests)

-- white space stands at a place, and none before it
pub record IsCut (text : List ℕ) (n : ℕ) : Type 0 where
  pub within : n < length text
  pub space : is_space (get_or text n 0) ≡ true
  pub front : list_all is_other (take n text) ≡ true

pub cut_found : (text : List ℕ) (n : ℕ) → Some n ≡ position is_space text → IsCut text n
cut_found text n found =
    let at = position-found is_space text n found in
    subst (IsCut text) at.0
    (let within : position_or_len is_space text < length text = (let w = at.1 in let same = at.0 in omega arith) in
    record {
      within = within;
      space = space_of _ (prefix_len_stops is_other text 0 within);
      front = all-prefix is_other text;
    })

pub before_cut : (text : List ℕ) (n : ℕ) → IsCut text n → IsCharBoundary text n
before_cut text n is = IsCharBoundary-before_ascii text n is.within (space_low _ is.space)

-- the rest from the white space on
pub tail_cut : (text tail : List ℕ) (n : ℕ) → tail ≡ drop n text → IsCut text n → (0 < length tail) × (get_or tail 0 0 ≡ get_or text n 0)
tail_cut text tail n tail_is is =
    let within = is.within in
    let some : 0 < length (drop n text) = omega (arith, length-drop n text) in
    let same : n + 0 ≡ n = omega arith in
    (subst (λ t. 0 < length t) (sym tail_is) some, ap (λ t. get_or t 0 0) tail_is ∙ get_or-drop n text 0 0 ∙ ap (λ k. get_or text k 0) same)

pub behind_cut : (text tail : List ℕ) (n : ℕ) → IsUtf8 tail → tail ≡ drop n text → IsCut text n → IsCharBoundary tail 1
behind_cut text tail n utf8 tail_is is =
    let first = tail_cut text tail n tail_is is in
    let low : get_or tail 0 0 < 128 = subst (λ c. c < 128) (sym first.1) (space_low _ is.space) in
    let one : 0 + 1 ≡ 1 = omega arith in
    subst (IsCharBoundary tail) one (IsCharBoundary-after_ascii tail 0 utf8 first.0 low)

pub cut_pieces : (text piece tail behind : List ℕ) (n : ℕ) → IsUtf8 piece → IsUtf8 behind → piece ≡ take n text → tail ≡ drop n text → behind ≡ drop 1 tail → IsCut text n
    → pieces (chars text) ≡ chars piece ∷ pieces (chars behind)
cut_pieces text piece tail behind n utf8 also piece_is tail_is behind_is is =
    let first = tail_cut text tail n tail_is is in
    let c = get_or text n 0 in
    let up : 0 + 1 ≡ 1 = omega arith in
    let front : tail ≡ c ∷ behind =
    drop_more tail 0 0 first.0 ∙ ap (λ b. b ∷ drop (0 + 1) tail) first.1 ∙ ap (λ k. c ∷ drop k tail) up ∙ ap (λ t. c ∷ t) (sym behind_is) in
    let whole : text ≡ piece ++ c ∷ behind =
    sym (take-append-drop n text) ∙ ap (λ t. t ++ drop n text) (sym piece_is) ∙ ap (λ t. piece ++ t) (sym tail_is ∙ front) in
    let other : list_all is_other (chars piece) ≡ true = text_passes is_other wide_other piece utf8 (ap (list_all is_other) piece_is ∙ is.front) in
    ap pieces (ap chars whole ∙ chars_around piece behind c utf8 also (space_low c is.space)) ∙ split-at is_space c is.space (chars piece) (chars behind) other

pub whole_pieces : (text : List ℕ) → IsUtf8 text → None ≡ position is_space text → pieces (chars text) ≡ chars text ∷ []
whole_pieces text utf8 missed =
    let all : list_all is_other text ≡ true =
    ap (list_all is_other) (sym (take_all (prefix_len is_other text) text (position-missed is_space text missed))) ∙ all-prefix is_other text in
    split-none is_space (chars text) (text_passes is_other wide_other text utf8 all)

-- ---- behind digits

digit_ascii : (c : ℕ) → is_digit c ≡ true → is_ascii c ≡ true
digit_ascii c is = grind (arith, nat_tests)

pub digit_boundary : (text : List ℕ) → IsUtf8 text → IsCharBoundary text (prefix_len is_digit text)
digit_boundary text utf8 = front_boundary is_digit digit_ascii text utf8

-- a text begins with a digit as bytes where it does as characters
no_digit : (text : List ℕ) → IsUtf8 text → prefix_len is_digit text ≡ 0 → prefix_len is_digit (chars text) ≡ 0
no_digit text utf8 none = go (chars text) (encodes-chars text utf8) where
  go : (cs : List ℕ) → encode_utf8_all cs ≡ text → prefix_len is_digit cs ≡ 0
  go [] e = refl
  go (c ∷ cs) e = ⊎_elim
      (λ (digit : is_digit c ≡ true).
      let low : c < 128 = grind (arith, nat_tests) in
      let bytes : text ≡ c ∷ encode_utf8_all cs = sym e ∙ ap (λ t. t ++ encode_utf8_all cs) (encode_ascii c low) in
      let one : prefix_len is_digit text ≡ 1 + prefix_len is_digit (encode_utf8_all cs) = ap (prefix_len is_digit) bytes ∙ cond-true _ _ _ digit in
      absurd (omega (arith, one, none)))
      (λ (other : is_digit c ≡ false). cond-false _ _ _ other)
      (cases_Bool (is_digit c))

pub record IsCutBehind (text : List ℕ) : Type 0 where
  pub digits : chars (take (prefix_len is_digit text) text) ≡ digits_of (chars text)
  pub unit : chars (drop (prefix_len is_digit text) text) ≡ unit_of (chars text)

pub cut_behind : (text : List ℕ) → IsUtf8 text → IsCutBehind text
cut_behind text utf8 =
    let n = prefix_len is_digit text in
    let front = take n text in
    let rest = drop n text in
    let digits = all-prefix is_digit text in
    let ascii = all-weaker is_digit is_ascii digit_ascii front digits in
    let utf8_rest = IsUtf8-drop text n utf8 (digit_boundary text utf8) in
    let whole : chars text ≡ front ++ chars rest = ap chars (sym (take-append-drop n text)) ∙ chars_past front rest ascii in
    let len : prefix_len is_digit (chars text) ≡ length front =
    ap (prefix_len is_digit) whole ∙ front_len is_digit front (chars rest) digits (no_digit rest utf8_rest (front_gone is_digit text)) in
    record {
      digits = chars_ascii front ascii
          ∙ sym (ap (λ k. take k (chars text)) len ∙ ap (take (length front)) whole ∙ take_at front (chars rest) (length front) refl);
      unit = sym (ap (λ k. drop k (chars text)) len ∙ ap (drop (length front)) whole ∙ drop_at front (chars rest) (length front) refl);
    }
