use Rattle.std.proofs.Common.{◌∙◌, sym, subst, string_bytes}
use Rattle.std.specs.Str.{chars}
use Rattle.std.proofs.lemmas.Str.{IsUtf8-string_bytes}
use Rattle.pur_sheet.specs.Canonical.{IsCanonicalSheet}
use Rattle.pur_sheet.proofs.sheets.read_sheet.Goals as goal

pub returns-clause-canonical : goal.returns-clause-canonical
returns-clause-canonical g c =
    subst (IsCanonicalSheet c.args.settings.now c.args.gate.now (chars c.args.scope.now)) (sym c.in_ok-sheet.ensures)
    (c.sheets_are_canonical.ensures c.args.settings.now c.args.gate.now (chars c.args.scope.now) c.args.raw.now c.requires c.utf8.raw)

pub returns-clause-plain : goal.returns-clause-plain
returns-clause-plain g c =
    c.canonical_sheets_stay.ensures.plain c.args.settings.now c.args.gate.now (chars c.args.scope.now) (string_bytes c.in_ok-sheet.sheet) c.requires
    (IsUtf8-string_bytes c.in_ok-sheet.sheet) (returns-clause-canonical g c)

pub returns-clause-itself : goal.returns-clause-itself
returns-clause-itself g c =
    c.canonical_sheets_stay.ensures.itself c.args.settings.now c.args.gate.now (chars c.args.scope.now) (string_bytes c.in_ok-sheet.sheet) c.requires
    (IsUtf8-string_bytes c.in_ok-sheet.sheet) (returns-clause-canonical g c)

pub returns-clause-stays : goal.returns-clause-stays
returns-clause-stays g c canonical =
    c.in_ok-sheet.ensures
    ∙ c.canonical_sheets_stay.ensures.itself c.args.settings.now c.args.gate.now (chars c.args.scope.now) c.args.raw.now c.requires c.utf8.raw canonical
