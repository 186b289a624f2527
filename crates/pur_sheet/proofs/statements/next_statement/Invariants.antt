use Rattle.std.proofs.Common.{◌≡◌, ◌≤◌, length}
use Rattle.pur_sheet.specs.Statements.{statements_of}
use Rattle.pur_sheet.proofs.statements.next_statement.Given as goal

-- what is left has the same statements
abbrev pub invariant-skipping : goal.invariant-skipping
invariant-skipping l = (statements_of l.rest ≡ statements_of l.fn.text) × (length l.rest ≤ length l.fn.text)

abbrev pub decreases-skipping : goal.decreases-skipping
decreases-skipping l = length l.rest
