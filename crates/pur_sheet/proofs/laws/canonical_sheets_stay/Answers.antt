use Rattle.pur_sheet.proofs.StayLaws.{sheets-stay, nothing-ends}
use Rattle.pur_sheet.proofs.laws.canonical_sheets_stay.Goals as goal

pub returns : goal.returns
returns c = record {
  itself = sheets-stay c.styles_are_clean.ensures c.styles_are_closed.ensures.closed c.styles_are_closed.ensures.plain;
  plain = nothing-ends c.styles_are_clean.ensures;
}
