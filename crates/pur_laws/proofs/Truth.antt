-- Truth values: what `Rattle.std.proofs.lemmas.Bool` lacks.
use Rattle.std.proofs.Common.{◌≡◌, Bool, true, false, refl, sym}
use mathlib.Core.Bool.{beq}
use Rattle.std.specs.Prelude.{◌&&◌, ◌||◌, if◌then◌else◌}

-- two tests that are true together are equal
pub true_together : (a b : Bool) → (a ≡ true → b ≡ true) → (b ≡ true → a ≡ true) → a ≡ b
true_together true true f g = refl
true_together true false f g = sym (f refl)
true_together false true f g = g refl
true_together false false f g = refl

-- a comparison that computes
pub same_truth : (a b : Bool) → beq a b ≡ true → a ≡ b
same_truth true true same = refl
same_truth true false same = sym same
same_truth false true same = same
same_truth false false same = refl

-- beside what always holds, and beside what never does
pub and_true : (a : Bool) → (a && true) ≡ a
and_true true = refl
and_true false = refl

pub and_false : (a : Bool) → (a && false) ≡ false
and_false true = refl
and_false false = refl

pub or_true : (a : Bool) → (a || true) ≡ true
or_true true = refl
or_true false = refl

pub or_false : (a : Bool) → (a || false) ≡ a
or_false true = refl
or_false false = refl

-- what stands on either side of a choice holds of the choice
pub either : {A : Type 0} (P : A → Type 0) (b : Bool) (x y : A) → P x → P y → P (if b then x else y)
either P true x y first second = first
either P false x y first second = second
