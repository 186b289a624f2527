use Rattle.std.proofs.Common.{eq-eqb, refl, lit<}
use Rattle.std.proofs.lemmas.Bool.{ne_eqb}
use Rattle.std.proofs.lemmas.Str.Pattern.{starts_char}
use Rattle.pur_text.proofs.CleaningLemmas.{first_line_feed}
use Rattle.pur_text.proofs.FeedingLemmas.{passed_over}
use Rattle.pur_text.proofs.feeding.behind_cr.Goals.{else-after_cr-via-then-after_cr+else-starts_with, else-after_cr-via-else-after_cr}
use Rattle.pur_text.proofs.feeding.behind_cr.Goals as goal

pub returns-then-starts_with : goal.returns-then-starts_with
returns-then-starts_with c =
    let starts = starts_char 10 c.args.text.now c.starts_with.result c.starts_with.ensures.cases (lit< tt) (lit< tt) in
    rw c.if-after_cr.true (passed_over c.args.text.now _ c.utf8.text (eq-eqb _ _ (starts.0 c.if-starts_with.true)) c.range_from.ensures.value)

pub returns : goal.returns
returns c =
    elim c.else-after_cr.branch [
      | else-after_cr-via-then-after_cr+else-starts_with w ↦
          let starts = starts_char 10 c.args.text.now w.starts_with.result w.starts_with.ensures.cases (lit< tt) (lit< tt) in
          let other = ne_eqb _ _ (λ e. let yes = starts.1 e in let no = w.if-starts_with.false in cc) in
          rw (w.if-after_cr.true, first_line_feed c.args.text.now c.utf8.text, other) refl
      | else-after_cr-via-else-after_cr w ↦ rw w.if-after_cr.false refl
    ]
