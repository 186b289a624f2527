-- No run ended at a byte that was passed.
use Rattle.std.proofs.Common.{◌≡◌, ℕ, ◌<◌, true, get_or}
use Rattle.pur_lexer.specs.Private.Cutting.{stops_at}
use Rattle.pur_lexer.proofs.places.place_of_stop.Given as goal

abbrev pub invariant-loop-place : goal.invariant-loop-place
invariant-loop-place l = (k : ℕ) → k < l.place → stops_at l.stop (get_or l.bytes k 0) ≡ true → ⊥
