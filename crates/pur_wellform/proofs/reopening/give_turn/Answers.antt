use Rattle.std.proofs.Common.{refl, sym, ◌∙◌}
use Rattle.pur_settings.specs.Rules.{permits_element}
use Rattle.pur_wellform.specs.Closing.{is_formatting}
use Rattle.pur_wellform.specs.Private.Opens.{names_of}
use Rattle.pur_wellform.specs.Private.Machines.{pending_tag}
use Rattle.pur_wellform.proofs.TableFacts.{right_of, formatting_is_full}
use Rattle.pur_wellform.proofs.RunFacts.{may_open_again}
use Rattle.pur_wellform.proofs.TurnFacts.{did-stays, kept_whole}
use Rattle.pur_wellform.proofs.reopening.give_turn.Goals as goal

pub returns-then-not-fits_again : goal.returns-then-not-fits_again
returns-then-not-fits_again c =
    did-stays c.args.settings.now c.args.machine.now _ c.args.limit c.args.first c.requires.machine (sym c.fits_again.ensures ∙ c.if-not-fits_again.true)
    refl refl c.in_ok-push_back.ensures.items refl

pub enter-requires-clause-low : goal.enter-requires-clause-low
enter-requires-clause-low c =
    (may_open_again c.args.settings.now c.args.limit (names_of c.args.machine.now.opened.items) (pending_tag c.args.first) c.requires.limit c.requires.pendable
    (sym c.fits_again.ensures ∙ c.if-not-fits_again.false)).low

pub enter-requires-clause-full : goal.enter-requires-clause-full
enter-requires-clause-full c =
    formatting_is_full c.args.first.name (right_of (permits_element c.args.settings.now c.args.first.name) (is_formatting c.args.first.name) c.requires.pendable)

pub enter-requires-clause-carried : goal.enter-requires-clause-carried
enter-requires-clause-carried c =
    kept_whole c.args.settings.now c.args.first.name c.args.first.attrs c.in_ok-written-in-Some.written c.requires.pendable c.in_ok-written-in-Some.ensures
