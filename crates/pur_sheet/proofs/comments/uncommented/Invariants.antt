use Rattle.std.proofs.Common.{◌≡◌, ◌++◌, length}
use Rattle.pur_sheet.specs.Comments.{uncommented}
use Rattle.pur_sheet.proofs.comments.uncommented.Given as goal

-- what was kept, and what is still to be kept, are the whole
abbrev pub invariant-walking : goal.invariant-walking
invariant-walking l = l.kept.items ++ uncommented l.rest ≡ uncommented l.fn.text

abbrev pub decreases-walking : goal.decreases-walking
decreases-walking l = length l.rest
