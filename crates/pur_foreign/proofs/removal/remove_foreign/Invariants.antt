-- The tokens that were given, and then what stays of the others, are what stays of all.
use Rattle.std.proofs.Common.{◌≡◌, ◌++◌, List, map}
use Rattle.pur_tokens.specs.Tokens.{PlainToken, plain_token}
use Rattle.pur_foreign.specs.Removal.{without_foreign}
use Rattle.pur_foreign.specs.Keeping.{kept_behind}
use Rattle.pur_foreign.proofs.removal.remove_foreign.Given as goal

abbrev pub invariant-loop-token : goal.invariant-loop-token
invariant-loop-token g l = (more : List PlainToken) → map plain_token l.tokens.items ++ kept_behind l.settings l.gate l.removal more ≡ without_foreign l.settings l.gate (map plain_token l.yielded ++ more)
