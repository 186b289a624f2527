use Rattle.std.proofs.Common.{◌≡◌, ◌<◌, sym, ap, ◌++◌, ◌∙◌, filter, length, string_bytes, arith}
use Rattle.std.proofs.lemmas.Bool.Decides.{nat_tests}
use Rattle.std.specs.Str.{chars}
use Rattle.pur_laws.proofs.Texts.{no_chars}
use Rattle.pur_text.specs.Characters.{is_allowed}
use Rattle.pur_text.specs.Cleaning.{with_line_feeds}
use Rattle.pur_text.specs.Feeding.{line_feeds_behind, text_with}
use Rattle.pur_text.specs.Private.Feeding.{written_with}
use Rattle.pur_text.proofs.FeedingLemmas.{put_on, some_characters}
use Rattle.pur_text.proofs.feeding.put_text.Goals as goal

pub returns-then-is_empty-clause-text : goal.returns-then-is_empty-clause-text
returns-then-is_empty-clause-text c cs =
    let is = sym c.if-is_empty.ensures in
    let none : length c.args.text.now ≡ 0 = grind (arith, nat_tests) in
    ap (λ t. written_with c.args.written.now (t ++ cs)) (sym (no_chars c.args.text.now none))

pub returns-clause-text : goal.returns-clause-text
returns-clause-text c cs =
    let is = sym c.if-is_empty.ensures in
    let some : 0 < length c.args.text.now = grind (arith, nat_tests) in
    let old = chars (string_bytes c.args.written.now.text) in
    let cr = c.args.written.now.after_cr in
    let all = chars c.args.text.now in
    ap (λ t. text_with t c.ends_in_cr-written.result cs) (c.in_ok-clean_onto.ensures.text ∙ ap (λ t. old ++ filter is_allowed (with_line_feeds t)) c.behind_cr-rest.ensures)
    ∙ ap (λ e. text_with (old ++ filter is_allowed (line_feeds_behind cr all)) e cs) c.ends_in_cr-written.ensures
    ∙ put_on old cr all cs (some_characters c.args.text.now c.utf8.text some)
