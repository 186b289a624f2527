-- How a command ends. Obeying any command has this contract, and `run` says it of the program.
use Rattle.std.specs.Prelude.{◌≡◌, ◌≢◌, ◌⊎◌, ◌+◌, ◌≤◌, Some, IfSome}
use Rattle.pur_io.specs.Faults.{Rose}
use Rattle.pur_io.specs.Taken.{taken_more}
use Rattle.pur_io.specs.declared.traits.Shelf as shelf
use Rattle.pur_io.specs.declared.traits.Sink as sink
use Rattle.pur_commands.specs.Choices.{ChoseSettings, ChoseInput}
use Rattle.pur_commands.specs.Commands.{PlainCommand, names_of, IfSample}
use Rattle.pur_commands.specs.Limits.{settings_limit, input_limit}
use Rattle.pur_commands.specs.declared.status.Status.{Status}
use Rattle.pur_commands.specs.declared.status.Status.TheVariants.{Done, OutOfMemory, BadCommandLine, SpellingFault, ValidityFault, SettingsRefused, InputTooLong, CannotRead, CannotWrite}
use Rattle.pur_cli.specs.Answers.{refused, IsStatus, text_of, TookFrontOf, answer_to}
use Rattle.pur_cli.specs.Samples.{sample_line}
use Rattle.pur_cli.specs.Private.Answering.{IsPromised}

-- a command over the texts of a shelf, whose answer goes to a sink, ends with a status
pub record Ends {H O : Type 0} (h : shelf.Ghosts H) (o : sink.Ghosts O) (command : PlainCommand) (before after : H) (out written : O)
    (status : Status) : Type 0 where
  -- which status comes: it is the answer's, but for want of memory and the faults outside
  pub words : status ≢ BadCommandLine
  pub done : status ≡ Done → IfSome (h.texts before) (λ texts. IsStatus (answer_to command texts) Done)
  pub spelling_fault : status ≡ SpellingFault → IfSome (h.texts before) (λ texts. IsStatus (answer_to command texts) SpellingFault)
  pub validity_fault : status ≡ ValidityFault → IfSome (h.texts before) (λ texts. IsStatus (answer_to command texts) ValidityFault)
  pub settings_refused : status ≡ SettingsRefused → IfSome (h.texts before) (λ texts. answer_to command texts ≡ refused SettingsRefused)
  pub too_long : status ≡ InputTooLong → IfSome (h.texts before) (λ texts. answer_to command texts ≡ refused InputTooLong)
  -- what was written
  pub whole : status ≡ Done → IfSome (h.texts before) (λ texts. o.taken written ≡ taken_more (o.taken out) (text_of (answer_to command texts) Done))
  pub whole_spelling : status ≡ SpellingFault → IfSome (h.texts before) (λ texts.
      o.taken written ≡ taken_more (o.taken out) (text_of (answer_to command texts) SpellingFault))
  pub whole_validity : status ≡ ValidityFault → IfSome (h.texts before) (λ texts.
      o.taken written ≡ taken_more (o.taken out) (text_of (answer_to command texts) ValidityFault))
  pub nothing : status ≢ Done → status ≢ SpellingFault → status ≢ ValidityFault → status ≢ CannotWrite → o.taken written ≡ o.taken out
  pub front : status ≡ CannotWrite → IfSome (h.texts before) (λ texts. TookFrontOf (answer_to command texts) (o.taken out) (o.taken written))
  -- what is promised of the text
  pub promised : status ≡ Done → IfSome (h.texts before) (λ texts. IsPromised (answer_to command texts) (text_of (answer_to command texts) Done))
  pub sampled_is : status ≡ Done → IfSample (Some command) (λ pieces. o.taken written ≡ taken_more (o.taken out) (sample_line pieces))
  -- what the counts of faults did
  pub unwritten : status ≡ CannotWrite → Rose (o.faults out) (o.faults written)
  pub unread : status ≡ CannotRead → Rose (h.faults before) (h.faults after)
  pub unread_late : status ≡ CannotRead → Rose (h.mark after) (h.faults after)
  pub kept : status ≢ OutOfMemory → status ≢ CannotRead → h.faults after ≡ h.faults before
  -- what was asked of the shelf
  pub unread_named : status ≡ CannotRead → ChoseSettings (names_of command) (h.chosen after) ⊎ ChoseInput (names_of command) (h.chosen after)
  pub unread_refused : status ≡ CannotRead → IfSome (h.texts before) (λ texts.
      ChoseSettings (names_of command) (h.chosen after) ⊎ (answer_to command texts ≢ refused SettingsRefused))
  pub place : IfSome (names_of command) (λ _. IfSome (h.texts before) (λ _. h.place after ≤ input_limit + 1))
  pub place_refused : status ≡ SettingsRefused → IfSome (h.texts before) (λ _. h.place after ≤ settings_limit + 1)
  pub texts : h.texts after ≡ h.texts before
  pub unasked : IfSample (Some command) (λ _. after ≡ before)
