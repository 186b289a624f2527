use Rattle.std.proofs.Common.{◌+◌, ◌≤◌, length}
use Rattle.pur_sheet.specs.Private.Words.{size_of}
use Rattle.pur_sheet.proofs.StatementLemmas.{IsRead}
use Rattle.pur_sheet.proofs.statements.cut_statement.Given as goal

-- what was read of the statement, and how much may be open
abbrev pub invariant-reading : goal.invariant-reading
invariant-reading l = record {
  read : IsRead l.fn.text l.rest l.reading;
  small : size_of l.reading + length l.rest ≤ length l.fn.text;
}

abbrev pub decreases-reading : goal.decreases-reading
decreases-reading l = length l.rest
