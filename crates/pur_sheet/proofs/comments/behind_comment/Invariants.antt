use Rattle.std.proofs.Common.{◌≡◌, ◌≤◌, length}
use Rattle.std.proofs.Common.{true}
use Rattle.pur_sheet.specs.Comments.{uncommented_behind}
use Rattle.pur_sheet.proofs.comments.behind_comment.Given as goal

-- what is left answers as the whole
abbrev pub invariant-searching : goal.invariant-searching
invariant-searching l = (uncommented_behind true 0 l.rest ≡ uncommented_behind true 0 l.fn.text) × (length l.rest ≤ length l.fn.text)

abbrev pub decreases-searching : goal.decreases-searching
decreases-searching l = length l.rest
