use Rattle.std.proofs.Common.{◌≡◌, map, string_bytes, length}
use Rattle.std.specs.List.{list_any}
use Rattle.std.specs.Str.{bytes_eq}
use Rattle.pur_uripolicy.specs.HostRules.{is_under}
use Rattle.pur_uripolicy.proofs.SubdomainLemmas.{any_behind_dot}
use Rattle.pur_uripolicy.proofs.hosts.is_under_any.Given as goal

abbrev pub invariant-loop-rest : goal.invariant-loop-rest
invariant-loop-rest l =
    list_any (is_under l.host) (map string_bytes l.domains) ≡ any_behind_dot (λ t. list_any (bytes_eq t) (map string_bytes l.domains)) l.rest

abbrev pub decreases-loop-rest : goal.decreases-loop-rest
decreases-loop-rest l = length l.rest
