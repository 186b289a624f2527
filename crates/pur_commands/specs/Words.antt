-- The command that the words of the command line name: `[--settings FILE] [--check] [INPUT]`, `--sheet SCOPE [--settings FILE] [INPUT]`,
-- or `--sample N`, as `clap` reads them.
use Rattle.std.specs.Prelude.{ℕ, Bool, true, false, ◌&&◌, ◌||◌, ◌==◌, not, nat_le, List, [], ◌∷◌, length, Option, Some, None, option_and_then, option_map, is_some, if◌then◌else◌, codes}
use Rattle.std.specs.List.{list_all}
use Rattle.std.specs.Str.{bytes_eq, chars}
use Rattle.std.specs.Str.Parse.{digits_value}
use Rattle.clap.specs.Words.{App, Rule, Row, Kinds, new_app, new_rule, with_rule, matches_of, fault_of, first_of}
use Rattle.clap.specs.declared.builder.action.ArgAction.TheVariants.{Set, SetTrue}
use Rattle.pur_text.specs.Hosts.{is_digit}
use Rattle.pur_commands.specs.Commands.{Names, PlainCommand, filter, check, sheet, sample, names_of}
use Rattle.pur_commands.specs.Limits.{sample_limit}
use Rattle.pur_sheet.specs.Selectors.{is_scope}

-- the options `--settings`, `--sheet` and `--sample` with one value each, the flag `--check`, and one word more
abbrev pub settings_rule : Rule
settings_rule = record (new_rule (codes "settings")) { long = Some (codes "settings"); action = Some Set }

abbrev pub check_rule : Rule
check_rule = record (new_rule (codes "check")) { long = Some (codes "check"); action = Some SetTrue }

abbrev pub sheet_rule : Rule
sheet_rule = record (new_rule (codes "sheet")) { long = Some (codes "sheet"); action = Some Set }

abbrev pub sample_rule : Rule
sample_rule = record (new_rule (codes "sample")) { long = Some (codes "sample"); action = Some Set }

abbrev pub input_rule : Rule
input_rule = record (new_rule (codes "input")) { action = Some Set }

-- the program before it has arguments, without flags for help and version
abbrev pub bare_app : App
bare_app = let app = new_app (codes "purify") in
    record app { top = record app.top { disable_help_flag = true; disable_version_flag = true } }

-- the command line as `clap` is told it
abbrev pub purify_app : App
purify_app = with_rule (with_rule (with_rule (with_rule (with_rule bare_app settings_rule) check_rule) sheet_rule) sample_rule) input_rule

-- whether a flag stands among the words, by its value: `clap` gives it the value `true` then
abbrev pub is_set : Option (List ℕ) → Bool
is_set None = false
is_set (Some value) = bytes_eq value (codes "true")

-- whether names name a text
abbrev pub name_a_text : Names → Bool
name_a_text names = is_some names.settings || is_some names.input

-- whether a word is one to five decimal digits
abbrev pub is_short_numeral : List ℕ → Bool
is_short_numeral word = not (length word == 0) && nat_le (length word) 5 && list_all is_digit word

-- the number of pieces that a word writes, where it is within the limit of samples
abbrev pub size_of : List ℕ → Option ℕ
size_of word = if is_short_numeral word && nat_le (digits_value 10 word) sample_limit then Some (digits_value 10 word) else None

-- the command of an input, which is checked or else filtered
abbrev pub command_on : Bool → Names → PlainCommand
command_on checks names = if checks then check names else filter names

-- the command for the value of `--sheet`: it must be a scope, and `--check` stands with none
abbrev pub sheet_with : Bool → List ℕ → Names → Option PlainCommand
sheet_with checks scope names = if checks || not (is_scope (chars scope)) then None else Some (sheet scope names)

-- the command for whether `--check` stands, for the values of `--sheet` and of `--sample`, and for the names: `--sample` stands alone
abbrev pub command_with : Bool → Option (List ℕ) → Option (List ℕ) → Names → Option PlainCommand
command_with checks None None names = Some (command_on checks names)
command_with checks (Some scope) None names = sheet_with checks scope names
command_with checks scope (Some size) names =
    if checks || is_some scope || name_a_text names then None else option_map sample (size_of size)

-- the command that matches name
abbrev pub command_in : List Row → Option PlainCommand
command_in rows = command_with (is_set (first_of (codes "check") rows)) (first_of (codes "sheet") rows) (first_of (codes "sample") rows)
    (record { settings = first_of (codes "settings") rows; input = first_of (codes "input") rows })

-- what there is, where there is no fault
abbrev pub unless_faulty : {X : Type 0} → Kinds → Option X → Option X
unless_faulty [] found = found
unless_faulty (kind ∷ kinds) found = None

-- the command that the words name, if they name one: `clap` is handed the program's name in front of them
unfoldable pub command_of : List (List ℕ) → Option PlainCommand
command_of words = let all = codes "purify" ∷ words in
    unless_faulty (fault_of purify_app all) (command_in (matches_of purify_app all))

-- the texts that the words name, where they name a command that reads any
abbrev pub names_read : List (List ℕ) → Option Names
names_read words = option_and_then names_of (command_of words)
