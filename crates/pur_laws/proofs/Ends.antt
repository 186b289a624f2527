-- Ends of lists that pass a test, taken off, and ends of texts.
use Rattle.std.proofs.Common.{◌≡◌, ℕ, zero, suc, ◌+◌, ◌-◌, ◌<◌, ◌≤◌, Bool, true, false, List, [], ◌∷◌, ◌++◌, length, take, drop, get_or, reverse, subst, refl, sym, ap, ◌∙◌, arith, IsUtf8, ⊎_elim}
use Rattle.std.specs.List.{list_all, prefix_len, suffix_len}
use Rattle.std.specs.Str.{IsCharBoundary}
use Rattle.std.proofs.lemmas.Bool.{cases_lt, and_parts, cond-true}
use Rattle.std.proofs.lemmas.List.{get_or-take, get_or-reverse, take_all, drop_at, drop-drop, length-reverse, length-append}
use Rattle.std.proofs.lemmas.List.Sums.{prefix_len-le-length, suffix_len-le-length, prefix_len_stops, prefix_len-drop_no, prefix_len-drop_all, suffix_len-take_no}
use Rattle.std.proofs.lemmas.Str.{IsCharBoundary-start, IsCharBoundary-after_ascii}
use Rattle.pur_laws.proofs.Lists.{all-prefix, all-weaker}
use Rattle.pur_laws.proofs.Texts.{is_ascii, ascii_at}

-- the front
pub front_gone : (test : ℕ → Bool) (xs : List ℕ) → prefix_len test (drop (prefix_len test xs) xs) ≡ 0
front_gone test xs =
    let k = prefix_len test xs in
    ⊎_elim
    (λ (within : k < length xs). prefix_len-drop_no test xs k 0 within (prefix_len_stops test xs 0 within))
    (λ (whole : length xs ≤ k). prefix_len-drop_all test xs k whole)
    (cases_lt k (length xs))

pub front_settled : (test : ℕ → Bool) (xs : List ℕ) → prefix_len test xs ≡ 0 → drop (prefix_len test xs) xs ≡ xs
front_settled test xs none = ap (λ n. drop n xs) none

-- the end
pub end_gone : (test : ℕ → Bool) (xs : List ℕ) → suffix_len test (take (length xs - suffix_len test xs) xs) ≡ 0
end_gone test xs =
    let k = suffix_len test xs in
    let n = length xs - k in
    let most = suffix_len-le-length test xs in
    ⊎_elim
    (λ (within : k < length xs).
    let back : k < length (reverse xs) = subst (λ m. k < m) (sym (length-reverse xs)) within in
    let stops : test (get_or (reverse xs) k 0) ≡ false = prefix_len_stops test (reverse xs) 0 back in
    let place : length xs - 1 - k ≡ n - 1 = omega arith in
    let last : test (get_or xs (n - 1) 0) ≡ false = ap (λ m. test (get_or xs m 0)) (sym place) ∙ ap test (sym (get_or-reverse xs k 0 within)) ∙ stops in
    suffix_len-take_no test xs n 0 (omega arith) (omega arith) last)
    (λ (whole : length xs ≤ k). let none : n ≡ 0 = omega arith in ap (λ m. suffix_len test (take m xs)) none)
    (cases_lt k (length xs))

pub end_settled : (test : ℕ → Bool) (xs : List ℕ) → suffix_len test xs ≡ 0 → take (length xs - suffix_len test xs) xs ≡ xs
end_settled test xs none = take_all (length xs - suffix_len test xs) xs (omega arith)

-- what passes a test in front of what doesn't
pub front_len : (test : ℕ → Bool) (xs ys : List ℕ) → list_all test xs ≡ true → prefix_len test ys ≡ 0 → prefix_len test (xs ++ ys) ≡ length xs
front_len test [] ys all none = none
front_len test (x ∷ xs) ys all none =
    let both = and_parts (test x) (list_all test xs) all in
    let up : 1 + length xs ≡ suc (length xs) = omega arith in
    cond-true _ _ _ both.0 ∙ ap (λ n. 1 + n) (front_len test xs ys both.1 none) ∙ up

-- ---- texts

-- a text may be cut behind a front in ASCII
pub front_boundary : (test : ℕ → Bool) → ((c : ℕ) → test c ≡ true → is_ascii c ≡ true) → (text : List ℕ) → IsUtf8 text → IsCharBoundary text (prefix_len test text)
front_boundary test low text is = go (prefix_len test text) refl where
  go : (n : ℕ) → prefix_len test text ≡ n → IsCharBoundary text n
  go zero e = IsCharBoundary-start text is
  go (suc n) e =
      let within : suc n ≤ length text = subst (λ m. m ≤ length text) e (prefix_len-le-length test text) in
      let front : list_all test (take (suc n) text) ≡ true = subst (λ m. list_all test (take m text) ≡ true) e (all-prefix test text) in
      let ascii = ascii_at (take (suc n) text) (all-weaker test is_ascii low (take (suc n) text) front) n in
      let byte : get_or text n 0 < 128 = subst (λ b. b < 128) (get_or-take (suc n) text n 0 (omega arith)) ascii in
      let up : n + 1 ≡ suc n = omega arith in
      subst (IsCharBoundary text) up (IsCharBoundary-after_ascii text n is (omega arith) byte)

-- what is left behind a front of what was left
pub end_passes : (text rest front behind : List ℕ) → length rest ≤ length text → drop (length text - length rest) text ≡ rest → rest ≡ front ++ behind
    → drop (length text - length behind) text ≡ behind
end_passes text rest front behind within end split =
    let n : length text - length behind ≡ length text - length rest + length front = omega (arith, length-append front behind, ap length split) in
    ap (λ k. drop k text) n ∙ sym (drop-drop (length front) (length text - length rest) text)
    ∙ ap (drop (length front)) (end ∙ split) ∙ drop_at front behind (length front) refl
