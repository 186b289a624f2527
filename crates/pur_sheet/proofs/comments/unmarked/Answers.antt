use Rattle.std.proofs.Common.{◌∙◌, ◌++◌, sym, ap, append-nil}
use Rattle.pur_sheet.specs.Comments.{unmarked}
use Rattle.pur_sheet.proofs.CommentLemmas.{unmarked_none}
use Rattle.pur_sheet.proofs.comments.unmarked.Goals as goal

pub returns : goal.returns
returns c =
    sym (append-nil c.walking.kept.items) ∙ ap (λ t. c.walking.kept.items ++ t) (sym unmarked_none ∙ ap unmarked (sym c.in_default.ensures.empty))
    ∙ c.walking.invariant
