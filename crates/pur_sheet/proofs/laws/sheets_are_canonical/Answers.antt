use Rattle.pur_sheet.proofs.SheetLaws.{sheets-canonical}
use Rattle.pur_sheet.proofs.laws.sheets_are_canonical.Goals as goal

pub returns : goal.returns
returns c = sheets-canonical c.styles_are_read_as_themselves.ensures
