-- What stays of segments: nothing is made, no dot segment is left, and without dot segments all stays.
use Rattle.std.proofs.Common.{◌≡◌, ℕ, Bool, true, false, List, [], ◌∷◌, refl, ap, ◌∙◌}
use Rattle.std.specs.Prelude.{◌||◌, ◌==◌}
use Rattle.std.proofs.lemmas.Bool.{cond-false}
use Rattle.pur_laws.proofs.Tests.{Each}
use Rattle.pur_laws.proofs.Truth.{either}
use Rattle.pur_resolve.specs.Dots.{Settled, is_here, is_up, is_dotted, settled_with, settled}

-- ---- what holds of each segment, and of nothing, holds of each that stays

module _ (P : List ℕ → Type 0) (nothing : P []) where
  each_with : (segment : List ℕ) (behind : Settled) → P segment → Each P behind.stays → Each P (settled_with segment behind).stays
  unfolding settled_with
  each_with segment behind one all =
      either (λ (t : Settled). Each P t.stays) (is_here segment) _ _ all
      (either (λ (t : Settled). Each P t.stays) (is_up segment) _ _ all
      (either (λ (t : Settled). Each P t.stays) (behind.taken == 0) _ _ (one, all) all))

  pub each_settled : (dotted : Bool) (segments : List (List ℕ)) → Each P segments → Each P (settled dotted segments).stays
  unfolding settled
  each_settled dotted [] all = either (Each P) dotted _ _ (nothing, tt) tt
  each_settled dotted (segment ∷ behind) all =
      each_with segment (settled (is_dotted segment) behind) all.0 (each_settled (is_dotted segment) behind all.1)

-- ---- no dot segment stays

abbrev pub IsPlain : List ℕ → Type 0
IsPlain segment = is_dotted segment ≡ false

or_none : (a b : Bool) → (a || b) ≡ false → (a ≡ false) × (b ≡ false)
or_none true b e = absurd cc
or_none false b e = (refl, e)

plain_if : (segment : List ℕ) (behind : Settled) (here up : Bool) → is_here segment ≡ here → is_up segment ≡ up → Each IsPlain behind.stays
    → Each IsPlain (settled_with segment behind).stays
unfolding settled_with
plain_if segment behind true up a b all = rw a all
plain_if segment behind false true a b all = rw (a, b) all
plain_if segment behind false false a b all =
    let one : IsPlain segment = ap (λ t. t || is_up segment) a ∙ b in
    rw (a, b) (either (λ (t : Settled). Each IsPlain t.stays) (behind.taken == 0) _ _ (one, all) all)

pub plain_settled : (dotted : Bool) (segments : List (List ℕ)) → Each IsPlain (settled dotted segments).stays
unfolding settled
plain_settled dotted [] = either (Each IsPlain) dotted _ _ (refl, tt) tt
plain_settled dotted (segment ∷ behind) =
    plain_if segment (settled (is_dotted segment) behind) (is_here segment) (is_up segment) refl refl (plain_settled (is_dotted segment) behind)

-- ---- without dot segments all stays

abbrev all_stay : List (List ℕ) → Settled
all_stay segments = record { taken = 0; stays = segments }

with_plain : (segment : List ℕ) (behind : List (List ℕ)) → IsPlain segment → settled_with segment (all_stay behind) ≡ all_stay (segment ∷ behind)
unfolding settled_with
with_plain segment behind plain =
    let both = or_none (is_here segment) (is_up segment) plain in
    cond-false _ _ _ both.0 ∙ cond-false _ _ _ both.1

pub settled_plain : (segments : List (List ℕ)) → Each IsPlain segments → settled false segments ≡ all_stay segments
unfolding settled
settled_plain [] all = refl
settled_plain (segment ∷ behind) all =
    ap (λ d. settled_with segment (settled d behind)) all.0 ∙ ap (settled_with segment) (settled_plain behind all.1) ∙ with_plain segment behind all.0
