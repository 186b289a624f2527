-- What holds of all sheets.
use Rattle.std.specs.Prelude.{◌≡◌, ℕ, ◌==◌, not, List, IsTrue, IsUtf8}
use Rattle.std.specs.List.{list_all}
use Rattle.std.specs.Str.{chars}
use Rattle.pur_settings.specs.Rules.{Rules}
use Rattle.pur_uripolicy.specs.HostRules.{PlainHostRule}
use Rattle.pur_sheet.specs.Canonical.{IsCanonicalSheet}
use Rattle.pur_sheet.specs.Selectors.{is_scope}
use Rattle.pur_sheet.specs.Sheets.{sheet_of}

-- what a text is read as is a canonical sheet
abbrev pub SheetsAreCanonical : Type 0
SheetsAreCanonical =
    (rules : Rules) (hosts : PlainHostRule) (scope raw : List ℕ) → IsTrue (is_scope scope) → IsUtf8 raw
    → IsCanonicalSheet rules hosts scope (sheet_of rules hosts scope (chars raw))

-- a canonical sheet is read as itself
abbrev pub CanonicalSheetsStay : Type 0
CanonicalSheetsStay =
    (rules : Rules) (hosts : PlainHostRule) (scope text : List ℕ) → IsTrue (is_scope scope) → IsUtf8 text
    → IsCanonicalSheet rules hosts scope (chars text) → sheet_of rules hosts scope (chars text) ≡ chars text

-- a canonical sheet has no `<`, so it ends no element that it stands in
abbrev pub NothingEnds : Type 0
NothingEnds =
    (rules : Rules) (hosts : PlainHostRule) (scope text : List ℕ) → IsTrue (is_scope scope) → IsUtf8 text
    → IsCanonicalSheet rules hosts scope (chars text) → IsTrue (list_all (λ c. not (c == 0x3C)) (chars text))
