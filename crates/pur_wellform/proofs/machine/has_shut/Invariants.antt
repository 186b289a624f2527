use Rattle.std.proofs.Common.{◌≡◌, drop}
use Rattle.std.specs.List.{list_any}
use Rattle.pur_wellform.specs.Search.{is_shut}
use Rattle.pur_wellform.proofs.machine.has_shut.Given as goal

abbrev pub invariant-loop-open : goal.invariant-loop-open
invariant-loop-open l = list_any (λ o. is_shut o.name) l.opened ≡ list_any (λ o. is_shut o.name) (drop l.open-index l.opened)
