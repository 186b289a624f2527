use Rattle.std.proofs.Common.{length}
use Rattle.pur_inject.proofs.paragraphs.blank_line_count.Given as goal

abbrev pub decreases-counting : goal.decreases-counting
decreases-counting l = length l.rest
