use Rattle.std.proofs.Common.{◌≡◌, length}
use Rattle.pur_sheet.specs.Styles.{styles_with}
use Rattle.pur_cli.proofs.sheeting.take_styles.Given as goal

-- with the tokens that are left they are those of all
abbrev pub invariant-taking : goal.invariant-taking
invariant-taking l = styles_with l.styles l.lexer ≡ styles_with l.fn.styles l.fn.lexer

abbrev pub decreases-taking : goal.decreases-taking
decreases-taking l = length l.lexer
