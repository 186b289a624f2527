-- What a run answers where nothing fails.
use Rattle.std.specs.Prelude.{ℕ, ◌≡◌, List, [], length, nat_lt, if◌then◌else◌, Option, Some, None}
use Rattle.pur_io.specs.Texts.{Name, text_named}
use Rattle.pur_settings.specs.Rules.{Rules}
use Rattle.pur_uripolicy.specs.HostRules.{rule_of}
use Rattle.pur_engine.specs.Purified.{purified}
use Rattle.pur_commands.specs.Accepted.{settings_named}
use Rattle.pur_commands.specs.Commands.{Names, PlainCommand, filter, check, sheet, sample}
use Rattle.pur_commands.specs.Limits.{input_limit}
use Rattle.pur_commands.specs.Statuses.{code_of, report_of}
use Rattle.pur_commands.specs.Words.{command_of}
use Rattle.pur_commands.specs.Writing.{TookFront}
use Rattle.pur_commands.specs.declared.status.Status.{Status}
use Rattle.pur_commands.specs.declared.status.Status.TheVariants.{Done, BadCommandLine, SettingsRefused, InputTooLong}
use Rattle.pur_cli.specs.Samples.{sample_line}
use Rattle.pur_cli.specs.Sheets.{safe_sheet}
use Rattle.pur_cli.specs.Verdicts.{IsVerdict}

-- what a run answers: that it refuses, with a status; that it filters, or checks, an input under settings; that it makes an input's
-- style sheets safe for a scope under settings; or that it tells the numbers of a sample of so many pieces
pub data Answer : Type 0 where
  refused : Status → Answer
  filtered : Rules → List ℕ → Answer
  checked : Rules → List ℕ → Answer
  sheeted : Rules → List ℕ → List ℕ → Answer
  sampled : ℕ → Answer

-- an answer's status: a check has the one that is true of its input
abbrev pub IsStatus : Answer → Status → Type 0
IsStatus (refused s) status = status ≡ s
IsStatus (filtered rules input) status = status ≡ Done
IsStatus (checked rules input) status = IsVerdict rules (rule_of rules) input status
IsStatus (sheeted rules scope input) status = status ≡ Done
IsStatus (sampled pieces) status = status ≡ Done

-- an answer's text on standard output: the purification of the input under the settings and the rule of hosts that they give, the
-- word that a check's status has, the safe sheet, or the sample's line
abbrev pub text_of : Answer → Status → List ℕ
text_of (refused s) status = []
text_of (filtered rules input) status = purified rules (rule_of rules) input
text_of (checked rules input) status = report_of status
text_of (sheeted rules scope input) status = safe_sheet rules scope input
text_of (sampled pieces) status = sample_line pieces

-- a number is the one of a status that an answer has
pub record HasStatus (answer : Answer) (code : ℕ) : Type 0 where
  pub status : Status
  pub is_status : IsStatus answer status
  pub code_is : code ≡ code_of status

-- a sink took a front of an answer's text, and not all of it
pub record TookFrontOf (answer : Answer) (before after : Option (List ℕ)) : Type 0 where
  pub status : Status
  pub is_status : IsStatus answer status
  pub front : TookFront before after (text_of answer status)

-- the answer for an input under settings: an input past its limit is refused, and with any other the work is done
abbrev pub answer_under : (Rules → List ℕ → Answer) → Rules → List ℕ → Answer
answer_under work rules input = if nat_lt input_limit (length input) then refused InputTooLong else work rules input

-- the answer for an input: settings that aren't accepted are refused before the input is looked at
abbrev pub answer_for : (Rules → List ℕ → Answer) → Option Rules → List ℕ → Answer
answer_for work None input = refused SettingsRefused
answer_for work (Some rules) input = answer_under work rules input

-- the answer of a work on what is named
abbrev pub answer_on : (Rules → List ℕ → Answer) → Names → List (Name × List ℕ) → Answer
answer_on work names texts = answer_for work (settings_named texts names.settings) (text_named texts names.input)

-- the answer to a command
abbrev pub answer_to : PlainCommand → List (Name × List ℕ) → Answer
answer_to (filter names) texts = answer_on filtered names texts
answer_to (check names) texts = answer_on checked names texts
answer_to (sheet scope names) texts = answer_on (λ rules input. sheeted rules scope input) names texts
answer_to (sample pieces) texts = sampled pieces

-- the answer to a command, if there is one: words that name none are refused before anything is read
abbrev pub answer_if : Option PlainCommand → List (Name × List ℕ) → Answer
answer_if None texts = refused BadCommandLine
answer_if (Some command) texts = answer_to command texts

-- the answer for the words of the command line, as lists of bytes, and the texts
abbrev pub answer_of : List (List ℕ) → List (Name × List ℕ) → Answer
answer_of words texts = answer_if (command_of words) texts
