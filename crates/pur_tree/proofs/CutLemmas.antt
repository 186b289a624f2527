-- Texts that are cut at one place.
use Rattle.std.proofs.Common.{◌≡◌, ℕ, List, [], ◌∷◌, ◌++◌, refl, Bool, true, false}
use Rattle.std.specs.List.{list_any}
use Rattle.std.proofs.lemmas.Bool.{or_parts}

-- a list that is empty or begins with an element that stops a run
abbrev pub is_stop : (ℕ → Bool) → List ℕ → Bool
is_stop stops [] = true
is_stop stops (c ∷ x) = stops c

-- a run without what stops it is cut off exactly
pub run_cut : (stops : ℕ → Bool) (a b x y : List ℕ) → list_any stops a ≡ false → list_any stops b ≡ false
    → is_stop stops x ≡ true → is_stop stops y ≡ true → a ++ x ≡ b ++ y → (a ≡ b) × (x ≡ y)
run_cut stops [] [] x y p q s t e = (refl, e)
run_cut stops [] (d ∷ b) x y p q s t e = absurd (let w = rw e at s in let v = (or_parts (stops d) (list_any stops b) q).0 in cc)
run_cut stops (c ∷ a) [] x y p q s t e = absurd (let w = rw (← e) at t in let v = (or_parts (stops c) (list_any stops a) p).0 in cc)
run_cut stops (c ∷ a) (d ∷ b) x y p q s t e =
    let same : c ≡ d = cc in
    let more : a ++ x ≡ b ++ y = cc in
    let r = run_cut stops a b x y (or_parts (stops c) (list_any stops a) p).1 (or_parts (stops d) (list_any stops b) q).1 s t more in
    (let h : c ∷ a ≡ d ∷ b = rw (same, r.0) refl in h, r.1)

pub tail_same : (c d : ℕ) (a b : List ℕ) → c ∷ a ≡ d ∷ b → a ≡ b
tail_same c d a b h = cc

pub head_same : (c d : ℕ) (a b : List ℕ) → c ∷ a ≡ d ∷ b → c ≡ d
head_same c d a b h = cc
