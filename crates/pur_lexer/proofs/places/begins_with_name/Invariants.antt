-- The letters that were passed are those of the name.
use Rattle.std.proofs.Common.{◌≡◌, drop}
use Rattle.pur_lexer.specs.Constructs.{begins_with_name}
use Rattle.pur_lexer.proofs.places.begins_with_name.Given as goal

abbrev pub invariant-loop-place : goal.invariant-loop-place
invariant-loop-place l = begins_with_name (drop l.place l.name) (drop l.place l.bytes) ≡ begins_with_name l.fn.name l.fn.bytes
