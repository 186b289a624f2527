-- No end mark begins where one was looked for.
use Rattle.std.proofs.Common.{◌≡◌, ℕ, ◌<◌, false, drop}
use Rattle.pur_lexer.specs.Constructs.{is_end_mark}
use Rattle.pur_lexer.proofs.places.place_of_end_mark.Given as goal

abbrev pub invariant-loop-place : goal.invariant-loop-place
invariant-loop-place l = (k : ℕ) → k < l.place → is_end_mark l.name (drop k l.bytes) ≡ false
