use Rattle.std.proofs.Common.{refl}
use Rattle.pur_wellform.proofs.MachineFacts.{did-leave, some_open}
use Rattle.pur_wellform.proofs.machine.leave.Goals as goal

pub leave-requires : goal.leave-requires
leave-requires c = some_open c.args._settings.now c.args.machine.now c.requires.machine c.requires.some

pub returns-clause-did : goal.returns-clause-did
returns-clause-did c =
    did-leave c.args._settings.now c.args.machine.now _ c.in-Some.left c.requires.machine c.in-Some.ensures.items refl refl
    c.in_ok-leave.ensures.opened c.in_ok-leave.ensures.written
