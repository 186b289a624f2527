use Rattle.std.proofs.Common.{◌≡◌, ◌++◌, length}
use Rattle.std.specs.Str.{chars}
use Rattle.std.specs.List.{flat_map}
use Rattle.pur_text.specs.Texts.{text_of}
use Rattle.pur_sheet.specs.Sheets.{sheet_of, statement_written}
use Rattle.pur_sheet.specs.Statements.{statements_of}
use Rattle.pur_sheet.proofs.sheets.write_sheet.Given as goal

-- what was written, and what the statements that are left are read as, are the sheet
abbrev pub invariant-reading : goal.invariant-reading
invariant-reading g l =
    text_of l.sheet ++ flat_map (statement_written l.fn.settings l.fn.gate (chars l.fn.scope)) (statements_of l.rest)
    ≡ sheet_of l.fn.settings l.fn.gate (chars l.fn.scope) (chars l.fn.raw)

abbrev pub decreases-reading : goal.decreases-reading
decreases-reading g l = length l.rest
