use Rattle.std.proofs.Common.{refl}
use Rattle.pur_wellform.proofs.MachineFacts.{did-settle, newest_wait}
use Rattle.pur_wellform.proofs.machine.settle.Goals as goal

pub returns-else-shut : goal.returns-else-shut
returns-else-shut c =
    did-settle c.args._settings.now c.args.machine.now _ c.args.shut c.requires refl refl
    (newest_wait c.args.shut c.keep_newest.new.pending.items c.args.machine.now.pending.items c.if-shut.false c.keep_newest.ensures) refl
