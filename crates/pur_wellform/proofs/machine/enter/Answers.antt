use Rattle.std.proofs.Common.{refl, ◌∙◌}
use Rattle.pur_tree.specs.Nodes.{plain_elem}
use Rattle.pur_wellform.proofs.MachineFacts.{room, holds, did-enter}
use Rattle.pur_wellform.proofs.machine.enter.Goals as goal

pub enter-requires-clause-level : goal.enter-requires-clause-level
enter-requires-clause-level c = room c.args.machine.now.opened.items _ c.args.name c.requires.machine.same c.requires.low

pub enter-requires-clause-holds : goal.enter-requires-clause-holds
enter-requires-clause-holds c = holds c.args.settings.now c.args.machine.now c.requires.machine

pub returns : goal.returns
returns c =
    did-enter c.args.settings.now c.args.machine.now _ c.opening-open.result (plain_elem c.args.name c.args.attrs) c.requires.machine c.requires.full
    c.opening-open.ensures.name (c.opening-open.ensures.attrs ∙ c.requires.carried) (rw c.deref.ensures.value at c.opening-open.ensures.known) c.in_ok-push.ensures.items refl refl
    c.in_ok-enter.ensures.opened c.in_ok-enter.ensures.written
