use Rattle.std.proofs.Common.{◌∙◌, ◌≤◌, arith, length, Option, Some, None}
use Rattle.std.specs.Option.{option_to_list}
use Rattle.pur_wellform.proofs.MachineFacts.{newest_of_rest}
use Rattle.pur_wellform.proofs.machine.keep_newest.Goals as goal

at_most_one : {X : Type 0} (found : Option X) → length (option_to_list found) ≤ 1
at_most_one None = omega arith
at_most_one (Some x) = omega arith

pub loop-pending-preserved-in-loop-pending : goal.loop-pending-preserved-in-loop-pending
loop-pending-preserved-in-loop-pending c =
    newest_of_rest c.loop-pending.pending.items c.pop_front.new.self.items (option_to_list c.pop_front.result) c.pop_front.ensures.items (at_most_one c.pop_front.result)
    (let t = c.loop-pending-test.true in let l = c.len.ensures in let v = c.loop-pending.pending.ok in omega (arith, v))
    ∙ c.loop-pending.invariant

pub loop-pending-preserved-in-loop-pending-2 : goal.loop-pending-preserved-in-loop-pending-2
loop-pending-preserved-in-loop-pending-2 c =
    newest_of_rest c.loop-pending.pending.items c.pop_front.new.self.items (option_to_list c.pop_front.result) c.pop_front.ensures.items (at_most_one c.pop_front.result)
    (let t = c.loop-pending-test.true in let l = c.len.ensures in let v = c.loop-pending.pending.ok in omega (arith, v))
    ∙ c.loop-pending.invariant
