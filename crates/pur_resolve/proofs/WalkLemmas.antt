-- The walk over a path's segments from left to right keeps what stays in the end.
use Rattle.std.proofs.Common.{◌≡◌, ◌≤◌, ◌<◌, ℕ, ◌+◌, ◌-◌, Bool, true, false, List, [], ◌∷◌, ◌++◌, length, take, drop, get_or, refl, sym, ap, ◌∙◌, arith, append_assoc, ⊎_elim}
use Rattle.std.specs.Prelude.{◌==◌, if◌then◌else◌}
use Rattle.std.proofs.lemmas.Bool.{eqb-true, eqb-false, cases_lt}
use Rattle.std.proofs.lemmas.List.{take-take, take-append-le, take_all, drop_all, drop_more, length-append, length-take}
use Rattle.pur_resolve.specs.Dots.{Settled, is_here, is_up, is_dotted, settled_with, settled}
use Rattle.std.specs.Borrow.{Bor}
use Rattle.pur_resolve.specs.Private.Segments.{texts, put_on, settled_on}

-- what stays in the end, by what is behind
abbrev joined : List (List ℕ) → Settled → List (List ℕ)
joined kept behind = take (length kept - behind.taken) kept ++ behind.stays

one_up : (kept : List (List ℕ)) (n : ℕ)
    → take (length (take (length kept - 1) kept) - n) (take (length kept - 1) kept) ≡ take (length kept - (n + 1)) kept
one_up kept n =
    let len = length-take (length kept - 1) kept in
    let same : length (take (length kept - 1) kept) - n ≡ length kept - (n + 1) = omega (arith, len) in
    ap (λ m. take m (take (length kept - 1) kept)) same ∙ take-take _ _ kept (omega arith)

positive : (n : ℕ) → (n == 0) ≡ false → 0 < n
positive n e = ⊎_elim (λ (some : 0 < n). some) (λ (none : n ≤ 0). absurd (eqb-false n 0 e (omega arith))) (cases_lt 0 n)

on_top : (kept : List (List ℕ)) (segment : List ℕ) (behind : Settled) (none : Bool) → (behind.taken == 0) ≡ none
    → joined (kept ++ segment ∷ []) behind
    ≡ joined kept (if none then record { taken = 0; stays = segment ∷ behind.stays } else record { taken = behind.taken - 1; stays = behind.stays })
on_top kept segment behind true e =
    let zero : behind.taken ≡ 0 = eqb-true behind.taken 0 e in
    let len = length-append kept (segment ∷ []) in
    let all = take_all (length (kept ++ segment ∷ []) - behind.taken) (kept ++ segment ∷ []) (omega (arith, zero)) in
    let own = take_all (length kept - 0) kept (omega arith) in
    ap (λ t. t ++ behind.stays) all ∙ append_assoc kept (segment ∷ []) behind.stays ∙ ap (λ t. t ++ (segment ∷ behind.stays)) (sym own)
on_top kept segment behind false e =
    let some : 0 < behind.taken = positive behind.taken e in
    let len = length-append kept (segment ∷ []) in
    let up : length (kept ++ segment ∷ []) ≡ length kept + 1 = len in
    let same : length (kept ++ segment ∷ []) - behind.taken ≡ length kept - (behind.taken - 1) = omega (arith, up, some) in
    ap (λ t. t ++ behind.stays) (ap (λ m. take m (kept ++ segment ∷ [])) same ∙ take-append-le (length kept - (behind.taken - 1)) kept (segment ∷ []) (omega arith))

step_if : (kept : List (List ℕ)) (segment : List ℕ) (behind : Settled) (here up : Bool) → is_here segment ≡ here → is_up segment ≡ up
    → joined (put_on kept segment) behind ≡ joined kept (settled_with segment behind)
unfolding put_on settled_with
step_if kept segment behind true up a b = rw a refl
step_if kept segment behind false true a b = rw (a, b) (ap (λ t. t ++ behind.stays) (one_up kept behind.taken))
step_if kept segment behind false false a b = rw (a, b) (on_top kept segment behind (behind.taken == 0) refl)

-- one more segment
pub put_step : (kept : List (List ℕ)) (dotted : Bool) (segment : List ℕ) (behind : List (List ℕ))
    → settled_on (put_on kept segment) (is_dotted segment) behind ≡ settled_on kept dotted (segment ∷ behind)
unfolding settled_on settled
put_step kept dotted segment behind = step_if kept segment (settled (is_dotted segment) behind) (is_here segment) (is_up segment) refl refl

-- at the start nothing stays yet
pub put_start : (segments : List (List ℕ)) → settled_on [] false segments ≡ (settled false segments).stays
unfolding settled_on
put_start segments = ap (λ t. t ++ (settled false segments).stays) (take_all _ [] (omega arith))

-- at the end a dot segment leaves its slash
pub put_end : (kept : List (List ℕ)) (dotted : Bool) → settled_on kept dotted [] ≡ kept ++ (if dotted then [] ∷ [] else [])
unfolding settled_on settled
put_end kept dotted = ap (λ t. t ++ (if dotted then [] ∷ [] else [])) (take_all (length kept - 0) kept (omega arith))

-- ---- the same of the texts that the code walks over

pub walk_step : (segments : List (Bor (List ℕ))) (i : ℕ) (d : Bor (List ℕ)) (kept more : List (List ℕ)) (dotted last : Bool) (whole : List (List ℕ))
    → i < length segments → more ≡ put_on kept (get_or segments i d).now → last ≡ is_dotted (get_or segments i d).now
    → settled_on kept dotted (texts (drop i segments)) ≡ whole → settled_on more last (texts (drop (i + 1) segments)) ≡ whole
walk_step segments i d kept more dotted last whole within grown is before =
    let one = get_or segments i d in
    let behind = texts (drop (i + 1) segments) in
    ap (λ k. settled_on k last behind) grown ∙ ap (λ b. settled_on (put_on kept one.now) b behind) is
    ∙ put_step kept dotted one.now behind ∙ ap (λ t. settled_on kept dotted (texts t)) (sym (drop_more segments i d within)) ∙ before

pub walk_end : (segments : List (Bor (List ℕ))) (i : ℕ) (kept closed : List (List ℕ)) (dotted : Bool) (whole : List (List ℕ))
    → length segments ≤ i → closed ≡ kept ++ (if dotted then [] ∷ [] else []) → settled_on kept dotted (texts (drop i segments)) ≡ whole
    → closed ≡ whole
walk_end segments i kept closed dotted whole past is before =
    is ∙ sym (put_end kept dotted) ∙ ap (λ t. settled_on kept dotted (texts t)) (sym (drop_all i segments past)) ∙ before
