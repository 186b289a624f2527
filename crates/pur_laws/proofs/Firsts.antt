-- Lists cut at the first element that passes a test.
use Rattle.std.proofs.Common.{◌≡◌, ℕ, suc, ◌+◌, Bool, true, false, List, [], ◌∷◌, ◌++◌, length, drop, refl, sym, ap, ◌∙◌, arith}
use Rattle.std.specs.Prelude.{◌||◌, not}
use Rattle.std.specs.List.{list_all, list_any, position_or_len, before_first, after_first, slice_split, onto_first}
use Rattle.std.proofs.lemmas.Bool.{and_parts, cond-true, cond-false, not-true}
use Rattle.std.proofs.lemmas.List.{take_at}
use Rattle.pur_laws.proofs.Ends.{front_len}

-- where no element passes, none of them does
pub none_any : (test : ℕ → Bool) (xs : List ℕ) → list_all (λ x. not (test x)) xs ≡ true → list_any test xs ≡ false
none_any test [] all = refl
none_any test (x ∷ xs) all =
    let both = and_parts (not (test x)) (list_all (λ x. not (test x)) xs) all in
    ap (λ b. b || list_any test xs) (not-true (test x) both.0) ∙ none_any test xs both.1

module _ (test : ℕ → Bool) (c : ℕ) (is : test c ≡ true) where
  pub any-at : (xs ys : List ℕ) → list_any test (xs ++ c ∷ ys) ≡ true
  any-at [] ys = ap (λ b. b || list_any test ys) is
  any-at (x ∷ xs) ys = go (test x) (any-at xs ys) where
    go : (b : Bool) → list_any test (xs ++ c ∷ ys) ≡ true → (b || list_any test (xs ++ c ∷ ys)) ≡ true
    go true later = refl
    go false later = later

  behind_one : (xs ys : List ℕ) → drop (suc (length xs)) (xs ++ c ∷ ys) ≡ ys
  behind_one [] ys = refl
  behind_one (x ∷ xs) ys = behind_one xs ys

  first-len : (xs ys : List ℕ) → list_all (λ x. not (test x)) xs ≡ true → position_or_len test (xs ++ c ∷ ys) ≡ length xs
  first-len xs ys none = front_len (λ x. not (test x)) xs (c ∷ ys) none (cond-false _ _ _ (ap not is))

  pub before_first-at : (xs ys : List ℕ) → list_all (λ x. not (test x)) xs ≡ true → before_first test (xs ++ c ∷ ys) ≡ xs
  before_first-at xs ys none = take_at xs (c ∷ ys) _ (sym (first-len xs ys none))

  pub after_first-at : (xs ys : List ℕ) → list_all (λ x. not (test x)) xs ≡ true → after_first test (xs ++ c ∷ ys) ≡ ys
  after_first-at xs ys none =
      let len = first-len xs ys none in
      let up : position_or_len test (xs ++ c ∷ ys) + 1 ≡ suc (length xs) = omega (arith, len) in
      ap (λ n. drop n (xs ++ c ∷ ys)) up ∙ behind_one xs ys

  pub split-at : (xs ys : List ℕ) → list_all (λ x. not (test x)) xs ≡ true → slice_split test (xs ++ c ∷ ys) ≡ xs ∷ slice_split test ys
  split-at [] ys none = cond-true _ _ _ is
  split-at (x ∷ xs) ys none =
      let both = and_parts (not (test x)) (list_all (λ x. not (test x)) xs) none in
      cond-false _ _ _ (not-true (test x) both.0) ∙ ap (onto_first x) (split-at xs ys both.1)

pub split-none : (test : ℕ → Bool) (xs : List ℕ) → list_all (λ x. not (test x)) xs ≡ true → slice_split test xs ≡ xs ∷ []
split-none test [] none = refl
split-none test (x ∷ xs) none =
    let both = and_parts (not (test x)) (list_all (λ x. not (test x)) xs) none in
    cond-false _ _ _ (not-true (test x) both.0) ∙ ap (onto_first x) (split-none test xs both.1)
