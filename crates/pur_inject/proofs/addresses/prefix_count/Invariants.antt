use Rattle.std.proofs.Common.{length}
use Rattle.pur_inject.proofs.addresses.prefix_count.Given as goal

abbrev pub decreases-counting : goal.decreases-counting
decreases-counting l = length l.rest
