-- What a command reads before its work, or why it stops there.
use Rattle.std.specs.Prelude.{◌≡◌, ◌≢◌, ◌⊎◌, ◌+◌, ◌<◌, ◌≤◌, ℕ, List, length, Option, Some, None, IfSome, IsSome, IsSomeAnd}
use Rattle.pur_io.specs.Faults.{Rose}
use Rattle.pur_io.specs.Texts.{Name, text_named}
use Rattle.pur_io.specs.declared.traits.Shelf.{Ghosts}
use Rattle.pur_settings.specs.Rules.{Rules}
use Rattle.pur_commands.specs.Accepted.{settings_named}
use Rattle.pur_commands.specs.Choices.{ChoseFile, ChoseSettings, ChoseInput}
use Rattle.pur_commands.specs.Commands.{Names}
use Rattle.pur_commands.specs.Limits.{settings_limit, input_limit}
use Rattle.pur_commands.specs.Statuses.{IsEarly}
use Rattle.pur_commands.specs.declared.status.Status.{Status}
use Rattle.pur_commands.specs.declared.status.Status.TheVariants.{SettingsRefused, InputTooLong, CannotRead, OutOfMemory}

-- accepted settings and an input within its limit were read: they are those that names give, and no fault was counted. What took the
-- input took these bytes
pub record IsSource {H : Type 0} (h : Ghosts H) (took : List ℕ → Type 0) (names : Names) (texts : Option (List (Name × List ℕ))) (faults : ℕ)
    (after : H) (rules : Rules) : Type 0 where
  pub input : List ℕ
  pub took_them : took input
  pub settings : IfSome texts (λ t. settings_named t names.settings ≡ Some rules)
  pub input_is : IfSome texts (λ t. input ≡ text_named t names.input)
  pub small : length input ≤ input_limit
  pub kept : h.faults after ≡ faults
  pub place : IfSome texts (λ _. h.place after ≤ input_limit + 1)
  pub told : h.texts after ≡ texts

-- a command that names texts so stops before its work, with a status: why, and what it leaves of a shelf that told these texts and
-- had counted so many faults
pub record Stopped {H : Type 0} (h : Ghosts H) (named : Option Names) (texts : Option (List (Name × List ℕ))) (faults : ℕ) (after : H)
    (status : Status) : Type 0 where
  pub early : IsEarly status
  -- a refusal by the texts
  pub settings_refused : status ≡ SettingsRefused → IsSomeAnd named (λ names. IfSome texts (λ t. settings_named t names.settings ≡ None))
  pub too_long : status ≡ InputTooLong → IsSomeAnd named (λ names. IfSome texts (λ t.
      IsSome (settings_named t names.settings) × (input_limit < length (text_named t names.input))))
  pub kept : status ≢ OutOfMemory → status ≢ CannotRead → h.faults after ≡ faults
  -- a fault of the shelf
  pub unread : status ≡ CannotRead → Rose faults (h.faults after)
  pub unread_late : status ≡ CannotRead → Rose (h.mark after) (h.faults after)
  pub unread_named : status ≡ CannotRead → ChoseSettings named (h.chosen after) ⊎ ChoseInput named (h.chosen after)
  pub unread_refused : status ≡ CannotRead → IsSomeAnd named (λ names. IfSome texts (λ t.
      ChoseFile names.settings (h.chosen after) ⊎ IsSome (settings_named t names.settings)))
  -- how much was asked of the shelf
  pub place : IfSome named (λ _. IfSome texts (λ _. h.place after ≤ input_limit + 1))
  pub place_refused : status ≡ SettingsRefused → IfSome texts (λ _. h.place after ≤ settings_limit + 1)
  pub told : h.texts after ≡ texts
