-- The tag is read step by step.
use Rattle.std.proofs.Common.{◌∙◌, sym, ap, true≢false, None, Some, lit<, arith}
use Rattle.std.specs.Prelude.{◌==◌}
use Rattle.std.specs.Str.{chars}
use Rattle.std.proofs.lemmas.Bool.{eqb-true}
use Rattle.std.proofs.lemmas.Str.Pattern.{strip_prefix_char, ends_char}
use Rattle.pur_lexer.proofs.TagLemmas.{chars_behind, not_behind}
use Rattle.pur_lexer.proofs.TagEndLemmas.{none_before, text_ended, attribute_read, tag_ended, slash_is}
use Rattle.pur_lexer.proofs.attributes.cut_tag_end.Goals as goal

pub attributes-init : goal.attributes-init
attributes-init c = (c.utf8.text, omega arith, none_before c.new-attrs.result (chars c.args.text.now) c.new-attrs.ensures)

pub attributes-preserved : goal.attributes-preserved
attributes-preserved c =
    let tail = c.cut_at.result.1.now in
    let other = strip_prefix_char 62 tail None c.in_default.ensures.cases (lit< tt) in (
      c.in_ok-rest.ensures.text,
      omega (arith, c.in_ok-rest.ensures.shorter, c.cut_at.ensures.lengths, c.attributes.invariant.1),
      attribute_read c.attributes.attrs c.attributes.rest.now (chars c.cut_at.result.0.now) (chars tail) _ c.attributes.invariant.0
          (λ e. true≢false (sym (ap (λ n. n == 0) e) ∙ sym c.is_empty.ensures ∙ c.attributes-test.true))
          c.cut_at.ensures.run c.cut_at.ensures.rest c.attributes.invariant.2 c.push_attribute.new.attrs (chars c.in_ok-rest.rest.now)
          (not_behind tail 62 c.cut_at.ensures.text.1 (lit< tt) other) c.in_ok-rest.ensures.attrs c.in_ok-rest.ensures.rest,
    )

pub returns-in-Some-clause-end : goal.returns-in-Some-clause-end
returns-in-Some-clause-end c =
    let skipped = c.cut_at.result.0.now in
    let tail = c.cut_at.result.1.now in
    let front = strip_prefix_char 62 tail (Some c.in-Some.behind) c.in-Some.ensures.cases (lit< tt) in
    rw c.drop_index.ensures (
    tag_ended c.attributes.attrs c.attributes.rest.now (chars skipped) (chars tail) _ c.attributes.invariant.0
    (λ e. true≢false (sym (ap (λ n. n == 0) e) ∙ sym c.is_empty.ensures ∙ c.attributes-test.true))
    c.cut_at.ensures.run c.cut_at.ensures.rest c.attributes.invariant.2 c.ends_with.result (chars c.in-Some.behind.now)
    (chars_behind tail c.in-Some.behind.now 62 (lit< tt) front)
    (slash_is skipped (chars c.attributes.rest.now) c.ends_with.result c.cut_at.ensures.text.0 c.cut_at.ensures.run (ends_char 47 skipped c.ends_with.result c.ends_with.ensures.cases (lit< tt))))

pub returns-clause-end : goal.returns-clause-end
returns-clause-end c =
    text_ended c.attributes.attrs c.attributes.rest.now _ (eqb-true _ _ (sym c.is_empty.ensures ∙ c.attributes-test.false)) c.attributes.invariant.2
