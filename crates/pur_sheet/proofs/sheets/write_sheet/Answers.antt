use Rattle.std.proofs.Common.{◌∙◌, ◌++◌, ap}
use Rattle.std.specs.List.{flat_map}
use Rattle.std.specs.Str.{chars}
use Rattle.std.proofs.lemmas.Str.{chars-nil}
use Rattle.pur_sheet.specs.Sheets.{sheet_of, statement_written}
use Rattle.pur_sheet.specs.Statements.{statements_of}
use Rattle.pur_sheet.proofs.sheets.write_sheet.Goals as goal

pub reading-init : goal.reading-init
unfolding sheet_of
reading-init g c =
    let written = statement_written c.args.settings.now c.args.gate.now (chars c.args.scope.now) in
    ap (λ t. t ++ flat_map written (statements_of c.as_slice-rest.result.now)) (ap chars c.new-sheet.ensures.bytes ∙ chars-nil)
    ∙ ap (λ t. flat_map written (statements_of t)) (c.as_slice-rest.ensures.value ∙ c.in_ok-text.ensures)
