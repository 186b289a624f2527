-- The bytes of one character in UTF-8 (Unicode, Table 3-6).
use Rattle.std.proofs.Common.{ℕ, ◌+◌, ◌/◌, ◌%◌, ◌<◌, ◌≤◌, List, [], ◌∷◌, length, get_or, sym, subst, ◌∙◌, arith, ⊎_elim, append-nil}
use Rattle.std.specs.Char.{encode_utf8}
use Rattle.std.proofs.lemmas.Bool.{cases_lt, cond-true, cond-false, lt-ltb, le-ltb}
use Rattle.std.proofs.lemmas.Str.{inside_one, length-encode, len_utf8_bounds}

-- one to four bytes: what holds of each of the four kinds holds of the bytes of every character
pub by_length : (P : List ℕ → Type 0) (c : ℕ)
    → (c < 128 → P (c ∷ []))
    → (128 ≤ c → c < 2048 → P ((192 + c / 64) ∷ (128 + c % 64) ∷ []))
    → (2048 ≤ c → c < 65536 → P ((224 + c / 4096) ∷ (128 + (c / 64) % 64) ∷ (128 + c % 64) ∷ []))
    → (65536 ≤ c → P ((240 + c / 262144) ∷ (128 + (c / 4096) % 64) ∷ (128 + (c / 64) % 64) ∷ (128 + c % 64) ∷ []))
    → P (encode_utf8 c)
unfolding encode_utf8
by_length P c one two three four = ⊎_elim
    (λ (low : c < 128). subst P (sym (cond-true _ _ _ (lt-ltb c 128 low))) (one low))
    (λ (from_two : 128 ≤ c).
    ⊎_elim
    (λ (low : c < 2048). subst P (sym (cond-false _ _ _ (le-ltb c 128 from_two) ∙ cond-true _ _ _ (lt-ltb c 2048 low))) (two from_two low))
    (λ (from_three : 2048 ≤ c).
    ⊎_elim
    (λ (low : c < 65536). subst P (sym (cond-false _ _ _ (le-ltb c 128 from_two) ∙ cond-false _ _ _ (le-ltb c 2048 from_three) ∙ cond-true _ _ _ (lt-ltb c 65536 low))) (three from_three low))
    (λ (from_four : 65536 ≤ c). subst P (sym (cond-false _ _ _ (le-ltb c 128 from_two) ∙ cond-false _ _ _ (le-ltb c 2048 from_three) ∙ cond-false _ _ _ (le-ltb c 65536 from_four))) (four from_four))
    (cases_lt c 65536))
    (cases_lt c 2048))
    (cases_lt c 128)

pub some_bytes : (c : ℕ) → 0 < length (encode_utf8 c)
some_bytes c = omega (arith, length-encode c, (len_utf8_bounds c).0)

-- bytes past ASCII, as all those of a character past ASCII are
abbrev pub are_high : List ℕ → Type 0
are_high bytes = (k : ℕ) → k < length bytes → 128 ≤ get_or bytes k 0

pub high_bytes : (c : ℕ) → 128 ≤ c → are_high (encode_utf8 c)
high_bytes c high k within = ⊎_elim
    (λ (low : get_or (encode_utf8 c) k 0 < 128).
    let same = inside_one c [] (encode_utf8 c) k (sym (append-nil (encode_utf8 c))) within low in
    absurd (omega arith))
    (λ (is : 128 ≤ get_or (encode_utf8 c) k 0). is)
    (cases_lt (get_or (encode_utf8 c) k 0) 128)
