use Rattle.pur_wellform.specs.Private.Opens.{names_of}
use Rattle.pur_wellform.proofs.TextFacts.{text_wrapper_full, kept_wrapped}
use Rattle.pur_wellform.proofs.steps.put_text.Goals as goal

pub enter_bare-requires-clause-full : goal.enter_bare-requires-clause-full
enter_bare-requires-clause-full c =
    text_wrapper_full c.args.settings.now (names_of c.args.machine.now.opened.items) c.in-Inside.wrapper (rw c.deref.ensures.value at c.in-Inside.ensures)

pub put_running-requires-in-Inside-clause-kept : goal.put_running-requires-in-Inside-clause-kept
put_running-requires-in-Inside-clause-kept c =
    kept_wrapped c.args.settings.now c.args.machine.now c.enter_bare.new.machine c.in-Inside.wrapper c.requires.kept (rw c.deref.ensures.value at c.in-Inside.ensures)
    c.in_ok-enter_bare-in-Inside.ensures
