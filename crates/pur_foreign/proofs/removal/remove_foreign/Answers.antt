-- Before all tokens nothing is given or held.
use Rattle.pur_foreign.proofs.removal.remove_foreign.Goals as goal

pub loop-token-init : goal.loop-token-init
loop-token-init g c = λ more. rw (c.replace-all.ensures.after, c.new.ensures.items) (c.new-removal.ensures c.args.settings.now c.args.gate.now more)
