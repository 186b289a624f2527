-- Places in lists: the first that passes a test, and what stands before it and there.
use Rattle.std.proofs.Common.{◌≡◌, ℕ, zero, suc, ◌<◌, ◌≤◌, Bool, true, false, List, [], ◌∷◌, ◌++◌, length, take, drop, get_or, refl, sym, ap, subst, ◌∙◌, arith, ⊎_elim, take_all, take-append-drop, Some, None}
use Rattle.std.proofs.Math.Seq.{drop-cons}
use Rattle.std.specs.Prelude.{◌==◌, not, nat_lt}
use Rattle.std.specs.List.{list_all, position, position_or_len}
use Rattle.std.proofs.lemmas.Bool.{cases_Bool, cond-true, cond-false, eqb-true}
use Rattle.std.proofs.lemmas.Bool.Decides.{nat_tests}

-- no element before place n passes the test
pub none_before : (test : ℕ → Bool) (text : List ℕ) (n : ℕ) → ((k : ℕ) → 0 ≤ k → k < n → ¬ (test (get_or text k 0) ≡ true)) → list_all (λ b. not (test b)) (take n text) ≡ true
none_before test text zero none = refl
none_before test [] (suc n) none = refl
none_before test (b ∷ text) (suc n) none = ⊎_elim
    (λ (yes : test b ≡ true). absurd (none 0 (omega arith) (omega arith) yes))
    (λ (no : test b ≡ false). rw no (none_before test text n (λ k low high. none (suc k) (omega arith) (omega arith))))
    (cases_Bool (test b))

-- nor any element of the list
pub none_at_all : (test : ℕ → Bool) (text : List ℕ) → ((k : ℕ) → 0 ≤ k → k < length text → ¬ (test (get_or text k 0) ≡ true)) → list_all (λ b. not (test b)) text ≡ true
none_at_all test text none =
    subst (λ t. list_all (λ b. not (test b)) t ≡ true) (take_all (length text) text (omega arith)) (none_before test text (length text) none)

-- what stands at a place
pub begins_at : (text : List ℕ) (place c : ℕ) → place < length text → (get_or text place 0 == c) ≡ true → drop place text ≡ c ∷ drop (suc place) text
begins_at text place c within is = drop-cons text place 0 within ∙ ap (λ b. b ∷ drop (suc place) text) (eqb-true _ c is)

pub cut_at : (text : List ℕ) (place c : ℕ) → place < length text → (get_or text place 0 == c) ≡ true → text ≡ take place text ++ c ∷ drop (suc place) text
cut_at text place c within is = sym (take-append-drop place text) ∙ ap (λ t. take place text ++ t) (begins_at text place c within is)

-- what `position` tells
module _ {X : Type 0} (test : X → Bool) (xs : List X) where
  pub position-found : (n : ℕ) → Some n ≡ position test xs → (position_or_len test xs ≡ n) × (n < length xs)
  position-found n is = ⊎_elim
      (λ (yes : nat_lt (position_or_len test xs) (length xs) ≡ true).
      let found : position test xs ≡ Some (position_or_len test xs) = cond-true _ _ _ yes in
      let same : position_or_len test xs ≡ n = cc in
      let within : position_or_len test xs < length xs = grind (arith, nat_tests) in
      (same, subst (λ k. k < length xs) same within))
      (λ (no : nat_lt (position_or_len test xs) (length xs) ≡ false).
      let none : position test xs ≡ None = cond-false _ _ _ no in
      absurd (cc))
      (cases_Bool (nat_lt (position_or_len test xs) (length xs)))

  pub position-missed : None ≡ position test xs → length xs ≤ position_or_len test xs
  position-missed is = ⊎_elim
      (λ (yes : nat_lt (position_or_len test xs) (length xs) ≡ true).
      let found : position test xs ≡ Some (position_or_len test xs) = cond-true _ _ _ yes in
      absurd (cc))
      (λ (no : nat_lt (position_or_len test xs) (length xs) ≡ false). grind (arith, nat_tests))
      (cases_Bool (nat_lt (position_or_len test xs) (length xs)))
