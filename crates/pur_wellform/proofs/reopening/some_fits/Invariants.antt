use Rattle.std.proofs.Common.{◌≡◌, map}
use Rattle.std.specs.List.{list_any}
use Rattle.std.specs.VecDeque.Iter.{deque_iter_rest}
use Rattle.pur_wellform.specs.Closing.{fits_again}
use Rattle.pur_wellform.specs.Private.Opens.{names_of}
use Rattle.pur_wellform.specs.Private.Machines.{pending_tag}
use Rattle.pur_wellform.proofs.reopening.some_fits.Given as goal

abbrev pub invariant-loop-waiting : goal.invariant-loop-waiting
invariant-loop-waiting l =
    list_any (λ tag. fits_again l.settings l.limit (names_of l.machine.opened.items) tag.name) (map pending_tag l.machine.pending.items)
    ≡ list_any (λ tag. fits_again l.settings l.limit (names_of l.machine.opened.items) tag.name) (map pending_tag (deque_iter_rest l.waiting-iterator))
