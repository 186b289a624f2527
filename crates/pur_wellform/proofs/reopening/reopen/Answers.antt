use Rattle.std.proofs.Common.{sym, ◌∙◌, arith}
use Rattle.pur_wellform.proofs.TurnFacts.{did-wait_on, did-reopen}
use Rattle.pur_wellform.proofs.reopening.reopen.Goals as goal

pub returns-then-not-some_fits : goal.returns-then-not-some_fits
returns-then-not-some_fits c =
    did-wait_on c.args.settings.now c.args.machine.now c.args.limit c.requires.machine (sym c.some_fits.ensures ∙ c.if-not-some_fits.true)

pub returns : goal.returns
returns c =
    did-reopen c.args.settings.now c.args.machine.now c.take_turns.new.machine c.args.limit c.len-count.result
    (let l = c.len-count.ensures in let v = c.args.machine.now.pending.ok in omega (arith, l, v)) c.in_ok-take_turns.ensures
