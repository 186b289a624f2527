use Rattle.std.proofs.Common.{length}
use Rattle.pur_wellform.proofs.search.+find_open.Given as goal

abbrev pub decreases-find_open : goal.decreases-find_open
decreases-find_open l = length l.opened.now
