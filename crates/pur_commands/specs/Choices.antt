-- What a run chose to read last.
use Rattle.std.specs.Prelude.{◌≡◌, ℕ, List, Option, Some, IsSomeAnd}
use Rattle.pur_io.specs.Texts.{Name}
use Rattle.pur_commands.specs.Commands.{Names}

-- what was chosen last is this file, where there is one
abbrev pub ChoseFile : Option (List ℕ) → Option Name → Type 0
ChoseFile file chosen = IsSomeAnd file (λ f. chosen ≡ Some (Some f))

-- what was chosen last is the settings text that a command names
abbrev pub ChoseSettings : Option Names → Option Name → Type 0
ChoseSettings named chosen = IsSomeAnd named (λ names. ChoseFile names.settings chosen)

-- what was chosen last is the input that a command names
abbrev pub ChoseInput : Option Names → Option Name → Type 0
ChoseInput named chosen = IsSomeAnd named (λ names. chosen ≡ Some names.input)
