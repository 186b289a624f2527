use Rattle.std.proofs.Common.{refl}
use Rattle.pur_nesting.proofs.bodies.Runs.begin_run.Goals as goal

pub returns-then-not-self-clause-same : goal.returns-then-not-self-clause-same
returns-then-not-self-clause-same c = λ e kids more row. rw (c.if-not-self.true, row, c.new.ensures.items) refl
