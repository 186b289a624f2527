use Rattle.std.proofs.Common.{◌≡◌, ◌∙◌, ap, sym, append_assoc, true, refl, rules, ◌++◌}
use Rattle.std.specs.Prelude.{if◌then◌else◌}
use Rattle.std.specs.List.{list_all}
use Rattle.std.specs.Str.{chars}
use Rattle.pur_inject.specs.Paragraphs.{is_line_feed, is_line_feed_sign, marked_run, with_blank_lines}
use Rattle.pur_inject.specs.Private.Cutting.{is_over, says}
use Rattle.pur_inject.specs.Private.Standing.{going_on}
use Rattle.pur_inject.specs.Signs.{letters}
use Rattle.pur_inject.proofs.GrowingLemmas.{cut-with}
use Rattle.pur_inject.proofs.paragraphs.Paragraphs.end_text.Goals as goal

pub cutting-preserved : goal.cutting-preserved
cutting-preserved c =
    let run = chars c.in-Some.run'.now in
    let behind = chars c.in-Some.behind.now in
    let is = c.in-Some.is' in
    let whole : chars c.cutting.rest.now ≡ run ++ behind = search rules in
    let said : list_all (says is_line_feed is) run ≡ true = search rules in
    let over : is_over is_line_feed is behind ≡ true = search rules in
    let cut = cut-with is_line_feed_sign is_line_feed (λ c. refl) marked_run refl is (chars c.cutting.rest.now) run behind whole said over in
    let made = if is then marked_run (letters run) else letters run in
    record {
      utf8 = search rules;
      over = c.in_ok-put_run.ensures.text ∙ c.cutting.invariant.over;
      whole = λ more.
          c.in_ok-put_run.ensures.same (with_blank_lines (letters behind) ++ more)
          ∙ ap (going_on c.args.doctype c.cutting.self) (sym (ap (λ l. l ++ more) cut ∙ append_assoc made (with_blank_lines (letters behind)) more))
          ∙ c.cutting.invariant.whole more;
    }
