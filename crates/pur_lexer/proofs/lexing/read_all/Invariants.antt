-- What stands, and then the tokens that are left, is what stood and then those that were.
use Rattle.std.proofs.Common.{◌≡◌, ◌++◌, map, length}
use Rattle.pur_tokens.specs.Tokens.{plain_token}
use Rattle.pur_lexer.proofs.lexing.read_all.Given as goal

abbrev pub invariant-reading : goal.invariant-reading
invariant-reading l = map plain_token l.tokens.items ++ l.lexer ≡ map plain_token l.fn.tokens.items ++ l.fn.lexer

abbrev pub decreases-reading : goal.decreases-reading
decreases-reading l = length l.lexer
