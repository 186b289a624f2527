-- What is promised of the style sheets of a page that are made safe.
use Rattle.std.specs.Prelude.{ℕ, ◌≡◌, ◌==◌, not, List, IsTrue, encode_utf8_all}
use Rattle.std.specs.List.{list_all}
use Rattle.std.specs.Str.{chars}
use Rattle.pur_text.specs.Cleaning.{cleaned}
use Rattle.pur_lexer.specs.Lexing.{tokens_of}
use Rattle.pur_settings.specs.Rules.{Rules}
use Rattle.pur_uripolicy.specs.HostRules.{rule_of}
use Rattle.pur_sheet.specs.Canonical.{IsCanonicalSheet}
use Rattle.pur_sheet.specs.Sheets.{sheet_of}
use Rattle.pur_sheet.specs.Styles.{styles_of}

-- the style sheets in an input, as they stand there
abbrev pub styles_in : List ℕ → List ℕ
styles_in input = styles_of (tokens_of (cleaned input))

-- the one sheet that they are read as for a scope, under settings and the rule of hosts that they give, as UTF-8
unfoldable pub safe_sheet : Rules → List ℕ → List ℕ → List ℕ
safe_sheet rules scope input = encode_utf8_all (sheet_of rules (rule_of rules) (chars scope) (styles_in input))

-- a text is the sheet of an input for a scope under settings, and has all that is promised of it: it is a canonical sheet, has no `<`, is
-- read as itself, and is what stood there, if that was canonical
pub record IsSafeSheet (rules : Rules) (scope input text : List ℕ) : Type 0 where
  pub sheet_is : text ≡ safe_sheet rules scope input
  pub canonical : IsCanonicalSheet rules (rule_of rules) (chars scope) (chars text)
  pub plain : IsTrue (list_all (λ c. not (c == 0x3C)) (chars text))
  pub itself : sheet_of rules (rule_of rules) (chars scope) (chars text) ≡ chars text
  pub stays : IsCanonicalSheet rules (rule_of rules) (chars scope) (styles_in input) → chars text ≡ styles_in input
