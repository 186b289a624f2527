-- The commands of the program as their callers see them.
use Rattle.std.specs.Prelude.{ℕ, List, Option, Some, None, option_map, String, string_bytes}
use Rattle.std.specs.declared.alloc.Global.{Global}
use Rattle.pur_io.specs.Texts.{Name}
use Rattle.pur_commands.specs.declared.command.Command.{Command}
use Rattle.pur_commands.specs.declared.command.Command.TheVariants.{Filter, Check, Sheet, Sample}

-- the texts that a command reads: the file of its settings, where it names one, and its input
pub record Names : Type 0 where
  pub settings : Option (List ℕ)
  pub input : Name

-- a command: to filter or to check what is named so, to make its style sheets safe for a scope, or to make and filter a sample of so
-- many pieces
pub data PlainCommand : Type 0 where
  filter : Names → PlainCommand
  check : Names → PlainCommand
  sheet : List ℕ → Names → PlainCommand
  sample : ℕ → PlainCommand

-- names as their caller sees them
abbrev pub plain_names : Option (String Global) → Option (String Global) → Names
plain_names settings input = record { settings = option_map string_bytes settings; input = option_map string_bytes input }

-- a command as its caller sees it
abbrev pub plain_command : Command → PlainCommand
plain_command (Filter settings input) = filter (plain_names settings input)
plain_command (Check settings input) = check (plain_names settings input)
plain_command (Sheet scope settings input) = sheet (string_bytes scope) (plain_names settings input)
plain_command (Sample pieces) = sample pieces

-- the texts that a command reads, if it reads any
abbrev pub names_of : PlainCommand → Option Names
names_of (filter names) = Some names
names_of (check names) = Some names
names_of (sheet scope names) = Some names
names_of (sample pieces) = None

-- what holds of the names of a command, where there is one and it filters
abbrev pub IfFilter : Option PlainCommand → (Names → Type 0) → Type 0
IfFilter (Some (filter names)) P = P names
IfFilter other P = Unit {0}

-- what holds of the scope and the names of a command, where there is one and it makes style sheets safe
abbrev pub IfSheet : Option PlainCommand → (List ℕ → Names → Type 0) → Type 0
IfSheet (Some (sheet scope names)) P = P scope names
IfSheet other P = Unit {0}

-- what holds of the number of pieces of a command, where there is one and it makes a sample
abbrev pub IfSample : Option PlainCommand → (ℕ → Type 0) → Type 0
IfSample (Some (sample pieces)) P = P pieces
IfSample other P = Unit {0}
