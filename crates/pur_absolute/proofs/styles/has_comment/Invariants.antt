use Rattle.std.proofs.Common.{◌≡◌, drop}
use Rattle.pur_uri.specs.Laws.{has_comment}
use Rattle.pur_absolute.proofs.StyleLemmas.{has_comment_behind}
use Rattle.pur_absolute.proofs.styles.has_comment.Given as goal

abbrev pub invariant-loop-byte : goal.invariant-loop-byte
invariant-loop-byte l = has_comment l.text ≡ has_comment_behind l.after_slash (drop l.byte-index l.text)
