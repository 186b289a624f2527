use Rattle.pur_wellform.proofs.MachineFacts.{room, holds}
use Rattle.pur_wellform.proofs.machine.enter_and_close.Goals as goal

pub enter-requires-clause-level : goal.enter-requires-clause-level
enter-requires-clause-level c = room c.args.machine.now.opened.items _ c.args.name c.requires.machine.same c.requires.low

pub enter-requires-clause-holds : goal.enter-requires-clause-holds
enter-requires-clause-holds c = holds c.args.settings.now c.args.machine.now c.requires.machine
