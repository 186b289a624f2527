use Rattle.std.proofs.Common.{◌∙◌, sym, ap, true, ◌∷◌, length, arith}
use Rattle.std.specs.Prelude.{codes}
use Rattle.pur_sheet.specs.Comments.{begins, uncommented, uncommented_behind}
use Rattle.pur_sheet.proofs.CommentLemmas.{comment_closes, comment_goes, uncommented_none}
use Rattle.pur_sheet.proofs.comments.behind_comment.Goals as goal

pub returns-in-Some-behind_mark-clause-closed : goal.returns-in-Some-behind_mark-clause-closed
returns-in-Some-behind_mark-clause-closed c =
    sym c.searching.invariant.0 ∙ comment_closes c.searching.rest.now c.in-Some-behind_mark.ensures.begins
    ∙ ap (λ t. 0x20 ∷ uncommented t) (sym c.in-Some-behind_mark.ensures.behind)

pub searching-preserved : goal.searching-preserved
searching-preserved c =
    let behind = c.in-Some.behind.now in (
      sym (comment_goes c.in-Some.field-0-0 behind (ap (begins (codes "*/")) (sym c.in-Some.ensures.cut) ∙ c.in_default-behind_mark.ensures.begins))
          ∙ ap (uncommented_behind true 0) (sym c.in-Some.ensures.cut) ∙ c.searching.invariant.0,
      omega (arith, ap length c.in-Some.ensures.cut),
    )

pub returns-clause-unclosed : goal.returns-clause-unclosed
returns-clause-unclosed c =
    sym c.searching.invariant.0 ∙ ap (uncommented_behind true 0) c.in_default.ensures.empty ∙ uncommented_none true
