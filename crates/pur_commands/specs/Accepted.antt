-- The settings that a command has.
use Rattle.std.specs.Prelude.{ℕ, List, length, nat_lt, if◌then◌else◌, Option, Some, None}
use Rattle.std.specs.Result.{result_ok}
use Rattle.pur_io.specs.Texts.{Name, text_named}
use Rattle.pur_settings.specs.Rules.{Rules, default_rules}
use Rattle.pur_settings.specs.Settings.{settings_of}
use Rattle.pur_commands.specs.Limits.{settings_limit}

-- the settings that a text gives, if it is within its limit and without offence
abbrev pub settings_in : List ℕ → Option Rules
settings_in text = if nat_lt settings_limit (length text) then None else result_ok (settings_of text)

-- the settings that the file of a command gives, if they are accepted; a command without one has the defaults
abbrev pub settings_named : List (Name × List ℕ) → Option (List ℕ) → Option Rules
settings_named texts None = Some default_rules
settings_named texts (Some file) = settings_in (text_named texts (Some file))
