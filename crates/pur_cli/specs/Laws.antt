-- What is said of checks.
use Rattle.std.specs.Prelude.{ℕ, ◌≡◌, List}
use Rattle.pur_settings.specs.Rules.{Rules}
use Rattle.pur_uripolicy.specs.HostRules.{PlainHostRule}
use Rattle.pur_cli.specs.Verdicts.{IsVerdict}
use Rattle.pur_commands.specs.declared.status.Status.{Status}

-- no two statuses are true of one input
abbrev pub VerdictsExclude : Type 0
VerdictsExclude = (rules : Rules) (rule : PlainHostRule) (input : List ℕ) (s t : Status)
    → IsVerdict rules rule input s → IsVerdict rules rule input t → s ≡ t
