use Rattle.std.proofs.Common.{length}
use Rattle.pur_wellform.proofs.steps.+forget.Given as goal

abbrev pub decreases-forget : goal.decreases-forget
decreases-forget l = length l.pending.now.items
