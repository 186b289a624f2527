-- What was copied, and then what is left, is what there was.
use Rattle.std.proofs.Common.{◌≡◌, ◌++◌, map, drop, string_bytes}
use Rattle.pur_uripolicy.proofs.site.copied.Given as goal

abbrev pub invariant-loop-host : goal.invariant-loop-host
invariant-loop-host l =
    map string_bytes l.copies.items ++ map string_bytes (drop l.host-index l.hosts) ≡ map string_bytes l.fn.hosts
