-- A style sheet made safe: it touches what stands in one element of the page, and sets what a style may set (CSS 2.1, sections 4.1.7 and 5.2.1).
use Rattle.std.specs.Prelude.{ℕ, if◌then◌else◌, List, [], ◌++◌, codes}
use Rattle.std.specs.List.{flat_map}
use Rattle.std.specs.Option.{option_map_or}
use Rattle.pur_settings.specs.Rules.{Rules}
use Rattle.pur_uripolicy.specs.HostRules.{PlainHostRule}
use Rattle.pur_cssprops.specs.Styles.{style_read}
use Rattle.pur_sheet.specs.Comments.{unmarked, uncommented}
use Rattle.pur_sheet.specs.Selectors.{are_selectors, selectors_text}
use Rattle.pur_sheet.specs.Statements.{Rule, begins_with, rule_of, statements_of}

-- a rule as it is written, of its selectors and its style
abbrev pub rule_text : List ℕ → List ℕ → List ℕ
rule_text selectors style = selectors ++ (codes " {" ++ (style ++ codes "}\n"))

-- what a rule is read as; nothing where one of its selectors isn't read, or nothing of its style is kept
unfoldable pub rule_written : Rules → PlainHostRule → List ℕ → Rule → List ℕ
rule_written rules hosts scope rule =
    if are_selectors rules scope rule.prelude
    then option_map_or (rule_text (selectors_text scope rule.prelude)) (style_read rules hosts rule.block) []
    else []

-- what a statement is read as: one that begins with `@` is dropped, and any other is a rule
unfoldable pub statement_written : Rules → PlainHostRule → List ℕ → List ℕ → List ℕ
statement_written rules hosts scope statement =
    if begins_with 0x40 statement then [] else option_map_or (rule_written rules hosts scope) (rule_of statement) []

-- what a sheet is read as
unfoldable pub sheet_of : Rules → PlainHostRule → List ℕ → List ℕ → List ℕ
sheet_of rules hosts scope raw = flat_map (statement_written rules hosts scope) (statements_of (uncommented (unmarked raw)))
