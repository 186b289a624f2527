use Rattle.std.proofs.Common.{◌≡◌, ◌++◌, length}
use Rattle.pur_sheet.specs.Comments.{unmarked}
use Rattle.pur_sheet.proofs.comments.unmarked.Given as goal

-- what was kept, and what is still to be kept, are the whole
abbrev pub invariant-walking : goal.invariant-walking
invariant-walking l = l.kept.items ++ unmarked l.rest ≡ unmarked l.fn.text

abbrev pub decreases-walking : goal.decreases-walking
decreases-walking l = length l.rest
