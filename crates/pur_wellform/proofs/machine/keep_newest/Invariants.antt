use Rattle.std.proofs.Common.{◌≡◌, ◌-◌, drop, length}
use Rattle.pur_wellform.proofs.machine.keep_newest.Given as goal

abbrev pub invariant-loop-pending : goal.invariant-loop-pending
invariant-loop-pending l =
    drop (length l.pending.items - 128) l.pending.items ≡ drop (length l.initial.pending.items - 128) l.initial.pending.items

abbrev pub decreases-loop-pending : goal.decreases-loop-pending
decreases-loop-pending l = length l.pending.items
