-- Tests that hold of all of a list, and of numbers.
use Rattle.std.proofs.Common.{◌≡◌, ◌≤◌, ◌<◌, arith, nat_le, leb-true, ℕ, List, [], ◌∷◌, refl, Bool, true, false, cond, ◌&&◌, filter}
use Rattle.std.specs.List.{list_all}
use Rattle.pur_wellform.proofs.TableFacts.{left_of, right_of, both}

-- those of a list that pass a second test pass both
pub all-filter_too : {X : Type 0} (test more : X → Bool) (xs : List X) → list_all test xs ≡ true
    → list_all (λ x. test x && more x) (filter more xs) ≡ true
all-filter_too test more [] p = refl
all-filter_too test more (x ∷ xs) p = go (more x) refl (all-filter_too test more xs (right_of (test x) (list_all test xs) p))
  where
    go : (b : Bool) → more x ≡ b → list_all (λ x. test x && more x) (filter more xs) ≡ true
        → list_all (λ x. test x && more x) (cond b (x ∷ filter more xs) (filter more xs)) ≡ true
    go true q r = both (both (left_of (test x) (list_all test xs) p) q) r
    go false q r = r

pub nat_le_false : (a b : ℕ) → b < a → nat_le a b ≡ false
nat_le_false a b h = go (nat_le a b) refl
  where
    go : (x : Bool) → nat_le a b ≡ x → x ≡ false
    go true e = absurd (let l : a ≤ b = leb-true a b e in omega arith)
    go false e = refl
