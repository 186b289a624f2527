-- What is left stays so while nothing is given.
use Rattle.std.proofs.Common.{◌≡◌, length}
use Rattle.std.specs.Str.{chars}
use Rattle.pur_lexer.specs.Private.Readings.{left_of}
use Rattle.pur_lexer.proofs.lexing.Lexer.next.Given as goal

abbrev pub invariant-reading : goal.invariant-reading
invariant-reading l = left_of l.self-inside.joiner (chars l.self-inside.rest.now) ≡ l.fn.self

abbrev pub decreases-reading : goal.decreases-reading
decreases-reading l = length l.self-inside.rest.now
