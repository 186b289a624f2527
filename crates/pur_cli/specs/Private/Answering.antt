-- What a command gives before anything is written.
use Rattle.std.specs.Prelude.{◌≡◌, ◌+◌, ◌≤◌, ℕ, List, Some, IfSome}
use Rattle.pur_io.specs.declared.traits.Shelf.{Ghosts}
use Rattle.pur_uripolicy.specs.HostRules.{rule_of}
use Rattle.pur_commands.specs.Commands.{PlainCommand, names_of, IfSample}
use Rattle.pur_commands.specs.Limits.{input_limit}
use Rattle.pur_commands.specs.Statuses.{IsSettled}
use Rattle.pur_commands.specs.declared.status.Status.{Status}
use Rattle.pur_cli.specs.Answers.{Answer, filtered, sheeted, IsStatus, text_of, answer_to}
use Rattle.pur_cli.specs.Samples.{sample_line}
use Rattle.pur_cli.specs.Sheets.{IsSafeSheet}
use Rattle.pur_engine.specs.Purifications.{IsPurification}

-- the text of an answer has all that is promised of a purification, or of a safe sheet
abbrev pub IsPromised : Answer → List ℕ → Type 0
IsPromised (filtered rules input) text = IsPurification rules (rule_of rules) input text
IsPromised (sheeted rules scope input) text = IsSafeSheet rules scope input text
IsPromised other text = Unit {0}

-- a status and a text are those of an answer
pub record Gives (answer : Answer) (status : Status) (text : List ℕ) : Type 0 where
  pub settled : IsSettled status
  pub is_status : IsStatus answer status
  pub text_is : text ≡ text_of answer status
  pub promised : IsPromised answer text

-- a status and a text are those of the answer to a command over a shelf's texts; and how it left the shelf
pub record Answered {H : Type 0} (h : Ghosts H) (command : PlainCommand) (before after : H) (status : Status) (text : List ℕ) : Type 0 where
  pub settled : IsSettled status
  pub gives : IfSome (h.texts before) (λ texts. Gives (answer_to command texts) status text)
  pub sampled_is : IfSample (Some command) (λ pieces. text ≡ sample_line pieces)
  pub kept : h.faults after ≡ h.faults before
  pub place : IfSome (names_of command) (λ _. IfSome (h.texts before) (λ _. h.place after ≤ input_limit + 1))
  pub told : h.texts after ≡ h.texts before
