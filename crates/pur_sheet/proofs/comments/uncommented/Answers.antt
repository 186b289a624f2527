use Rattle.std.proofs.Common.{◌∙◌, ◌++◌, ◌∷◌, [], sym, ap, append-nil, append_assoc, false, true}
use Rattle.std.specs.Prelude.{codes}
use Rattle.pur_sheet.specs.Comments.{begins, uncommented, uncommented_behind}
use Rattle.pur_sheet.proofs.CommentLemmas.{comment_opens, no_comment, uncommented_none}
use Rattle.pur_sheet.proofs.comments.uncommented.Goals as goal

pub walking-preserved-in-Some-behind_comment : goal.walking-preserved-in-Some-behind_comment
walking-preserved-in-Some-behind_comment c =
    let kept = c.walking.kept.items in
    ap (λ t. t ++ uncommented c.in-Some-behind_comment.after.now) c.in_ok-push-in-Some-behind_comment.ensures.items
    ∙ append_assoc kept (0x20 ∷ []) (uncommented c.in-Some-behind_comment.after.now)
    ∙ ap (λ t. kept ++ t) (sym c.in-Some-behind_comment.ensures.closed ∙ ap (uncommented_behind true 0) c.in-Some-behind_mark.ensures.behind
    ∙ sym (comment_opens c.walking.rest.now c.in-Some-behind_mark.ensures.begins))
    ∙ c.walking.invariant

pub returns-in-None-behind_comment : goal.returns-in-None-behind_comment
returns-in-None-behind_comment c =
    let kept = c.walking.kept.items in
    sym (append-nil kept)
    ∙ ap (λ t. kept ++ t) (sym c.in-None-behind_comment.ensures.unclosed ∙ ap (uncommented_behind true 0) c.in-Some-behind_mark.ensures.behind
    ∙ sym (comment_opens c.walking.rest.now c.in-Some-behind_mark.ensures.begins))
    ∙ c.walking.invariant

pub walking-preserved : goal.walking-preserved
walking-preserved c =
    let kept = c.walking.kept.items in
    let behind = c.in-Some.behind.now in
    ap (λ t. t ++ uncommented behind) c.in_ok-push-in-None.ensures.items ∙ append_assoc kept (c.in-Some.c ∷ []) (uncommented behind)
    ∙ ap (λ t. kept ++ t) (sym (no_comment c.in-Some.c behind (ap (begins (codes "/*")) (sym c.in-Some.ensures.cut) ∙ c.in-None.ensures.begins))
    ∙ ap uncommented (sym c.in-Some.ensures.cut))
    ∙ c.walking.invariant

pub returns : goal.returns
returns c =
    sym (append-nil c.walking.kept.items) ∙ ap (λ t. c.walking.kept.items ++ t) (sym (uncommented_none false) ∙ ap uncommented (sym c.in_default.ensures.empty))
    ∙ c.walking.invariant
