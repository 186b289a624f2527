use Rattle.std.proofs.Common.{◌∙◌, ◌+◌, ap, sym, drop, get_or, arith}
use Rattle.std.proofs.lemmas.List.{drop_all, drop_more}
use Rattle.pur_absolute.proofs.StyleLemmas.{has_comment_behind, comment-begins, comment-later, nothing-behind}
use Rattle.pur_absolute.proofs.styles.has_comment.Goals as goal

pub returns-then-begins_comment : goal.returns-then-begins_comment
returns-then-begins_comment c =
    let text = c.args.text.now in
    let i = c.loop-byte.byte-index in
    let after = c.loop-byte.after_slash in
    sym (c.loop-byte.invariant ∙ ap (has_comment_behind after) (drop_more text i 0 (omega (arith, c.loop-byte-test.true)))
    ∙ comment-begins after (get_or text i 0) (drop (i + 1) text) (sym c.begins_comment.ensures ∙ c.if-begins_comment.true))

pub loop-byte-preserved : goal.loop-byte-preserved
loop-byte-preserved c =
    let text = c.args.text.now in
    let i = c.loop-byte.byte-index in
    let after = c.loop-byte.after_slash in
    c.loop-byte.invariant ∙ ap (has_comment_behind after) (drop_more text i 0 (omega (arith, c.loop-byte-test.true)))
    ∙ comment-later after (get_or text i 0) (drop (i + 1) text) (sym c.begins_comment.ensures ∙ c.if-begins_comment.false)

pub returns : goal.returns
returns c =
    let text = c.args.text.now in
    sym (c.loop-byte.invariant
    ∙ ap (has_comment_behind c.loop-byte.after_slash) (drop_all c.loop-byte.byte-index text (omega (arith, c.loop-byte-test.false)))
    ∙ nothing-behind c.loop-byte.after_slash)
