use Rattle.std.proofs.Common.{◌≡◌, drop}
use Rattle.std.specs.Prelude.{map}
use Rattle.pur_tokens.specs.Tokens.{plain_token}
use Rattle.pur_sheet.specs.Styles.{styles_of, styles_with}
use Rattle.pur_sheet.proofs.bodies.styles.Given as goal

-- with the tokens that are left they are those of all
abbrev pub invariant-loop-token : goal.invariant-loop-token
invariant-loop-token l = styles_with l.styles (map plain_token (drop l.token-index l.tokens)) ≡ styles_of (map plain_token l.tokens)
