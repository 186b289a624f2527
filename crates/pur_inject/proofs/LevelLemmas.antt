-- Levels that fit.
use Rattle.std.proofs.Common.{◌≡◌, ℕ, ◌≤◌, ◌<◌, Bool, true, false, ◌&&◌, max, refl, sym, ap, ◌∙◌, arith}
use Rattle.std.specs.Prelude.{nat_le, if◌then◌else◌}
use Rattle.std.proofs.lemmas.Bool.{and_parts, and_from}
use Rattle.std.proofs.lemmas.Bool.Decides.{nat_tests}
use Rattle.pur_laws.proofs.Truth.{true_together}
use Rattle.pur_tree.specs.Places.{Place}

abbrev pub place_at : ℕ → Bool → Place
place_at level in_table = record { level = level; in_table = in_table }

le-true : (a b : ℕ) → nat_le a b ≡ true → a ≤ b
le-true a b is = grind (arith, nat_tests)

true-le : (a b : ℕ) → a ≤ b → nat_le a b ≡ true
true-le a b is = grind (arith, nat_tests)

-- the greatest of three levels fits where each does
fits-each : (a b c limit : ℕ) → nat_le (max (max a b) c) limit ≡ ((nat_le a limit && nat_le b limit) && nat_le c limit)
fits-each a b c limit = true_together _ _
    (λ all. let low = le-true (max (max a b) c) limit all in
    and_from _ _ (and_from _ _ (true-le a limit (omega arith)) (true-le b limit (omega arith))) (true-le c limit (omega arith)))
    (λ each.
    let both = and_parts (nat_le a limit && nat_le b limit) (nat_le c limit) each in
    let two = and_parts (nat_le a limit) (nat_le b limit) both.0 in
    let low_a = le-true a limit two.0 in
    let low_b = le-true b limit two.1 in
    let low_c = le-true c limit both.1 in
    true-le (max (max a b) c) limit (omega arith))

if-and : (a b : Bool) → (a && b) ≡ (if a then b else false)
if-and true b = refl
if-and false b = refl

-- an element whose level fits, with its children, in front of others
pub elem-fits : (a b c limit : ℕ) (r : Bool) → a ≤ limit → r ≡ nat_le b limit → nat_le (max (max a b) c) limit ≡ (if r then nat_le c limit else false)
elem-fits a b c limit r low is =
    fits-each a b c limit ∙ ap (λ (t : Bool). (t && nat_le b limit) && nat_le c limit) (true-le a limit low)
    ∙ ap (λ (t : Bool). t && nat_le c limit) (sym is) ∙ if-and r (nat_le c limit)

too-much : (a b : ℕ) → b < a → nat_le a b ≡ false
too-much a b is = grind (arith, nat_tests)

-- and one whose level doesn't
pub elem-too-deep : (a b c limit : ℕ) → limit < a → nat_le (max (max a b) c) limit ≡ (if nat_le a limit then nat_le c limit else false)
elem-too-deep a b c limit deep = too-much (max (max a b) c) limit (omega arith) ∙ ap (λ (t : Bool). if t then nat_le c limit else false) (sym (too-much a limit deep))
