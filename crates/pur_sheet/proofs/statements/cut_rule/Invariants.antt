use Rattle.std.proofs.Common.{◌≡◌, length}
use Rattle.pur_sheet.proofs.StatementLemmas.{IsPrelude}
use Rattle.pur_sheet.proofs.statements.cut_rule.Given as goal

-- what was read of the prelude; parentheses do not count
abbrev pub invariant-reading : goal.invariant-reading
invariant-reading l = record { prelude : IsPrelude l.fn.text l.rest l.nesting; depth : l.nesting.depth ≡ 0 }

abbrev pub decreases-reading : goal.decreases-reading
decreases-reading l = length l.rest
