-- The value stands behind a `=`, or is the name.
use Rattle.std.proofs.Common.{◌≡◌, ◌∙◌, sym, ap, Some, None, lit<}
use Rattle.std.specs.Str.{chars}
use Rattle.std.proofs.lemmas.Str.Pattern.{strip_prefix_char}
use Rattle.pur_attrlist.specs.Texts.{text_of}
use Rattle.pur_attrlist.specs.Attributes.{with_new}
use Rattle.pur_entities.specs.References.{decoded}
use Rattle.pur_lexer.specs.Tags.{ReadAttributes, raw_value, with_raw_value, attribute_behind}
use Rattle.pur_lexer.specs.Private.Readings.{with_all_new}
use Rattle.pur_lexer.proofs.TagLemmas.{chars_behind, not_behind, attribute_behind-value, attribute_behind-none, one_new}
use Rattle.pur_lexer.proofs.attributes.push_named.Goals as goal

pub returns-in_ok-push_if_new-in-Some-clause-attrs : goal.returns-in_ok-push_if_new-in-Some-clause-attrs
returns-in_ok-push_if_new-in-Some-clause-attrs c =
    let behind = c.in-Some.behind.now in
    let name = text_of c.args.name in
    let attrs = c.args.attrs.now in
    let raw = raw_value (chars c.cut_at.result.1.now) in
    let front = strip_prefix_char 61 c.args.text.now (Some c.in-Some.behind) c.in-Some.ensures.cases (lit< tt) in
    let here : attribute_behind name (chars c.args.text.now) ≡ with_raw_value name raw =
    ap (attribute_behind name) (chars_behind c.args.text.now behind 61 (lit< tt) front) ∙ attribute_behind-value name (chars behind)
    ∙ ap (λ t. with_raw_value name (raw_value t)) (sym c.cut_at.ensures.rest) in
    let value : text_of c.in_ok-value-in-Some.value ≡ decoded raw.value = c.in_ok-value-in-Some.ensures.text ∙ ap decoded c.cut_value.ensures.value in
    c.in_ok-push_if_new-in-Some.ensures.ok ∙ ap (with_new attrs name) value ∙ sym (one_new attrs name (decoded raw.value))
    ∙ ap (λ (r : ReadAttributes). with_all_new attrs r.pairs) (sym here)

pub returns-in_ok-push_if_new-in-Some-clause-rest : goal.returns-in_ok-push_if_new-in-Some-clause-rest
returns-in_ok-push_if_new-in-Some-clause-rest c =
    let behind = c.in-Some.behind.now in
    let name = text_of c.args.name in
    let raw = raw_value (chars c.cut_at.result.1.now) in
    let front = strip_prefix_char 61 c.args.text.now (Some c.in-Some.behind) c.in-Some.ensures.cases (lit< tt) in
    let here : attribute_behind name (chars c.args.text.now) ≡ with_raw_value name raw =
    ap (attribute_behind name) (chars_behind c.args.text.now behind 61 (lit< tt) front) ∙ attribute_behind-value name (chars behind)
    ∙ ap (λ t. with_raw_value name (raw_value t)) (sym c.cut_at.ensures.rest) in
    c.cut_value.ensures.rest ∙ ap (λ (r : ReadAttributes). r.rest) (sym here)

pub returns-in_ok-push_if_new-in-None-clause-attrs : goal.returns-in_ok-push_if_new-in-None-clause-attrs
returns-in_ok-push_if_new-in-None-clause-attrs c =
    let name = text_of c.args.name in
    let attrs = c.args.attrs.now in
    let other = strip_prefix_char 61 c.args.text.now None c.in-None.ensures.cases (lit< tt) in
    let here = attribute_behind-none name (chars c.args.text.now) (not_behind c.args.text.now 61 c.utf8.text (lit< tt) other) in
    let value : text_of c.in_ok-value-in-None.value ≡ name = ap chars (c.in_ok-value-in-None.ensures.ok ∙ c.as_str.ensures.value) in
    c.in_ok-push_if_new-in-None.ensures.ok ∙ ap (with_new attrs name) value ∙ sym (one_new attrs name name)
    ∙ ap (λ (r : ReadAttributes). with_all_new attrs r.pairs) (sym here)

pub returns-in_ok-push_if_new-in-None-clause-rest : goal.returns-in_ok-push_if_new-in-None-clause-rest
returns-in_ok-push_if_new-in-None-clause-rest c =
    let name = text_of c.args.name in
    let other = strip_prefix_char 61 c.args.text.now None c.in-None.ensures.cases (lit< tt) in
    let here = attribute_behind-none name (chars c.args.text.now) (not_behind c.args.text.now 61 c.utf8.text (lit< tt) other) in
    ap (λ (r : ReadAttributes). r.rest) (sym here)
