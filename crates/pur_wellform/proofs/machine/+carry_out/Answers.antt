use Rattle.std.proofs.Common.{◌-◌, arith}
use Rattle.pur_wellform.proofs.MachineFacts.{did-carry_more}
use Rattle.pur_wellform.proofs.machine.+carry_out.Goals as goal

pub returns : goal.returns
returns t c =
    did-carry_more c.args.settings.now c.args.machine.now c.leave.new.machine c.carry_out.new.machine c.wait.new.machine c.args.count (c.args.count - 1) c.in_ok-left.left
    (let n = c.if-count-eq0.false in omega (arith, n)) c.requires.machine c.in_ok-left.ensures.left c.in_ok-left.ensures.did c.in_ok-carry_out.ensures c.in_ok-wait.ensures
