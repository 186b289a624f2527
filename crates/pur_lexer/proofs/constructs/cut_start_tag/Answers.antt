-- By the name and the end of the tag.
use Rattle.std.proofs.Common.{◌≡◌, ◌∙◌, [], sym, ap, Some, None, refl, option_map}
use Rattle.std.specs.Str.{chars}
use Rattle.pur_attrlist.specs.Texts.{text_of}
use Rattle.pur_lexer.specs.Tags.{tag_end}
use Rattle.pur_lexer.specs.Constructs.{is_hiding}
use Rattle.pur_lexer.specs.Private.Readings.{tag_end_with}
use Rattle.pur_lexer.proofs.ConstructLemmas.{nothing_left, tag-found, by-empty, by-hiding, by-start}
use Rattle.pur_lexer.proofs.constructs.cut_start_tag.Goals as goal

pub returns-then-is_empty-clause-construct : goal.returns-then-is_empty-clause-construct
returns-then-is_empty-clause-construct c =
    let tag = tag_end_with c.in-Some.attrs c.in-Some.is_empty (chars c.in-Some.rest.now) in
    let found : Some tag ≡ tag_end (chars c.cut_at.result.1.now) = sym (ap (option_map (λ end. tag_end_with end.0 end.1 (chars end.2.now))) c.in-Some.is) ∙ c.in_ok-attrs.ensures.end in
    by-empty (text_of c.in_ok-name.name) tag c.if-is_empty.true ∙ tag-found c.cut_at.result.0.now (chars c.args.text.now) (text_of c.in_ok-name.name) (chars c.cut_at.result.1.now) (Some tag) c.cut_at.ensures.text.0 c.cut_at.ensures.run
    c.cut_at.ensures.rest (ap chars c.in_ok-name.ensures) found

pub returns-then-is_hiding-clause-construct : goal.returns-then-is_hiding-clause-construct
returns-then-is_hiding-clause-construct c =
    let tag = tag_end_with c.in-Some.attrs c.in-Some.is_empty (chars c.in-Some.rest.now) in
    let found : Some tag ≡ tag_end (chars c.cut_at.result.1.now) = sym (ap (option_map (λ end. tag_end_with end.0 end.1 (chars end.2.now))) c.in-Some.is) ∙ c.in_ok-attrs.ensures.end in
    c.in_ok-cut-in-Some.ensures.construct
    ∙ by-hiding (text_of c.in_ok-name.name) tag c.if-is_empty.false (sym (c.is_hiding.ensures ∙ ap (λ t. is_hiding (chars t)) c.as_str.ensures.value) ∙ c.if-is_hiding.true)
    ∙ tag-found c.cut_at.result.0.now (chars c.args.text.now) (text_of c.in_ok-name.name) (chars c.cut_at.result.1.now) (Some tag) c.cut_at.ensures.text.0 c.cut_at.ensures.run
    c.cut_at.ensures.rest (ap chars c.in_ok-name.ensures) found

pub returns-in-Some-clause-construct : goal.returns-in-Some-clause-construct
returns-in-Some-clause-construct c =
    let tag = tag_end_with c.in-Some.attrs c.in-Some.is_empty (chars c.in-Some.rest.now) in
    let found : Some tag ≡ tag_end (chars c.cut_at.result.1.now) = sym (ap (option_map (λ end. tag_end_with end.0 end.1 (chars end.2.now))) c.in-Some.is) ∙ c.in_ok-attrs.ensures.end in
    by-start (text_of c.in_ok-name.name) tag c.if-is_empty.false (sym (c.is_hiding.ensures ∙ ap (λ t. is_hiding (chars t)) c.as_str.ensures.value) ∙ c.if-is_hiding.false)
    ∙ tag-found c.cut_at.result.0.now (chars c.args.text.now) (text_of c.in_ok-name.name) (chars c.cut_at.result.1.now) (Some tag) c.cut_at.ensures.text.0 c.cut_at.ensures.run
    c.cut_at.ensures.rest (ap chars c.in_ok-name.ensures) found

pub returns-clause-construct : goal.returns-clause-construct
returns-clause-construct c =
    let found : None ≡ tag_end (chars c.cut_at.result.1.now) = sym (ap (option_map (λ end. tag_end_with end.0 end.1 (chars end.2.now))) c.in-None.is) ∙ c.in_ok-attrs.ensures.end in
    nothing_left [] refl ∙ tag-found c.cut_at.result.0.now (chars c.args.text.now) (text_of c.in_ok-name.name) (chars c.cut_at.result.1.now) None c.cut_at.ensures.text.0 c.cut_at.ensures.run
    c.cut_at.ensures.rest (ap chars c.in_ok-name.ensures) found
