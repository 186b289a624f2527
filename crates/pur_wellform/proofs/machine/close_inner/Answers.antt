use Rattle.pur_wellform.proofs.MachineFacts.{asked, did-close}
use Rattle.pur_wellform.proofs.machine.close_inner.Goals as goal

pub returns : goal.returns
returns c =
    did-close c.args.settings.now c.args.machine.now c.carry_out.new.machine c.settle.new.machine c.args.inner c.has_shut-shut.result
    (asked c.args.machine.now.opened.items c.deref.result.now c.innermost.result.now c.args.inner c.has_shut-shut.result c.requires.closed c.deref.ensures.value c.innermost.ensures c.has_shut-shut.ensures)
    c.in_ok-carry_out.ensures c.settle.ensures
