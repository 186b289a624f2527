-- A name begins an attribute, or one character is skipped.
use Rattle.std.proofs.Common.{◌≡◌, ◌∙◌, sym, ap, true≢false, length, drop}
use Rattle.std.specs.Prelude.{◌==◌}
use Rattle.std.specs.Str.{chars}
use Rattle.std.proofs.lemmas.Bool.{eqb-true}
use Rattle.pur_attrlist.specs.Texts.{text_of}
use Rattle.pur_lexer.specs.Tags.{ReadAttributes}
use Rattle.pur_lexer.specs.Private.Readings.{with_all_new}
use Rattle.pur_lexer.proofs.TagLemmas.{attribute_at-none, none_new, named_here}
use Rattle.pur_lexer.proofs.attributes.push_attribute.Goals as goal

pub returns-then-is_empty-clause-attrs : goal.returns-then-is_empty-clause-attrs
returns-then-is_empty-clause-attrs c =
    let none : length c.cut_at.result.0.now ≡ 0 = eqb-true _ _ (sym c.is_empty.ensures ∙ c.if-is_empty.true) in
    let here = attribute_at-none c.cut_at.result.0.now (chars c.args.text.now) none c.cut_at.ensures.run in
    sym (none_new c.args.attrs.now) ∙ ap (λ (r : ReadAttributes). with_all_new c.args.attrs.now r.pairs) (sym here)

pub returns-then-is_empty-clause-rest : goal.returns-then-is_empty-clause-rest
returns-then-is_empty-clause-rest c =
    let none : length c.cut_at.result.0.now ≡ 0 = eqb-true _ _ (sym c.is_empty.ensures ∙ c.if-is_empty.true) in
    let here = attribute_at-none c.cut_at.result.0.now (chars c.args.text.now) none c.cut_at.ensures.run in
    c.behind_first.ensures.rest ∙ ap (drop 1) c.cut_at.ensures.rest ∙ ap (λ (r : ReadAttributes). r.rest) (sym here)

pub returns-clause-attrs : goal.returns-clause-attrs
returns-clause-attrs c =
    let here = named_here c.cut_at.result.0.now (chars c.args.text.now) (text_of c.in_ok-name.name) (chars c.cut_at.result.1.now) (chars c.cut_at-2.result.1.now) c.cut_at.ensures.text.0
    (λ e. true≢false (sym (ap (λ n. n == 0) e) ∙ sym c.is_empty.ensures ∙ c.if-is_empty.false))
    c.cut_at.ensures.run c.cut_at.ensures.rest c.cut_at-2.ensures.rest (ap chars c.in_ok-name.ensures) in
    c.in_ok-rest.ensures.attrs ∙ ap (λ (r : ReadAttributes). with_all_new c.args.attrs.now r.pairs) (sym here)

pub returns-clause-rest : goal.returns-clause-rest
returns-clause-rest c =
    let here = named_here c.cut_at.result.0.now (chars c.args.text.now) (text_of c.in_ok-name.name) (chars c.cut_at.result.1.now) (chars c.cut_at-2.result.1.now) c.cut_at.ensures.text.0
    (λ e. true≢false (sym (ap (λ n. n == 0) e) ∙ sym c.is_empty.ensures ∙ c.if-is_empty.false))
    c.cut_at.ensures.run c.cut_at.ensures.rest c.cut_at-2.ensures.rest (ap chars c.in_ok-name.ensures) in
    c.in_ok-rest.ensures.rest ∙ ap (λ (r : ReadAttributes). r.rest) (sym here)
