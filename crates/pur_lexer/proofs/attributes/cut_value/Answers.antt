-- A quote begins the value, or none does.
use Rattle.std.proofs.Common.{◌≡◌, ◌∙◌, sym, ap, Some, None, lit<}
use Rattle.std.specs.Str.{chars}
use Rattle.std.proofs.lemmas.Str.Pattern.{strip_prefix_char}
use Rattle.pur_lexer.specs.Tags.{RawValue, raw_value, quoted_value, bare_value}
use Rattle.pur_lexer.proofs.TagLemmas.{chars_behind, not_behind, raw_value-double, raw_value-single, raw_value-bare}
use Rattle.pur_lexer.proofs.attributes.cut_value.Goals as goal

pub returns-in-Some-clause-value : goal.returns-in-Some-clause-value
returns-in-Some-clause-value c =
    let front = strip_prefix_char 34 c.args.text.now (Some c.in-Some.behind) c.in-Some.ensures.cases (lit< tt) in
    let here : raw_value (chars c.args.text.now) ≡ quoted_value 34 (chars c.in-Some.behind.now) =
    ap raw_value (chars_behind c.args.text.now c.in-Some.behind.now 34 (lit< tt) front) ∙ raw_value-double (chars c.in-Some.behind.now) in
    c.cut_quoted_value.ensures.value ∙ ap (λ (v : RawValue). v.value) (sym here)

pub returns-in-Some-clause-rest : goal.returns-in-Some-clause-rest
returns-in-Some-clause-rest c =
    let front = strip_prefix_char 34 c.args.text.now (Some c.in-Some.behind) c.in-Some.ensures.cases (lit< tt) in
    let here : raw_value (chars c.args.text.now) ≡ quoted_value 34 (chars c.in-Some.behind.now) =
    ap raw_value (chars_behind c.args.text.now c.in-Some.behind.now 34 (lit< tt) front) ∙ raw_value-double (chars c.in-Some.behind.now) in
    c.cut_quoted_value.ensures.rest ∙ ap (λ (v : RawValue). v.rest) (sym here)

pub returns-in-Some-strip_prefix-clause-value : goal.returns-in-Some-strip_prefix-clause-value
returns-in-Some-strip_prefix-clause-value c =
    let behind = c.in-Some-strip_prefix.behind in
    let front = strip_prefix_char 39 c.args.text.now (Some behind) c.in-Some-strip_prefix.ensures.cases (lit< tt) in
    let here : raw_value (chars c.args.text.now) ≡ quoted_value 39 (chars behind.now) =
    ap raw_value (chars_behind c.args.text.now behind.now 39 (lit< tt) front) ∙ raw_value-single (chars behind.now) in
    c.cut_quoted_value-in-Some-strip_prefix.ensures.value ∙ ap (λ (v : RawValue). v.value) (sym here)

pub returns-in-Some-strip_prefix-clause-rest : goal.returns-in-Some-strip_prefix-clause-rest
returns-in-Some-strip_prefix-clause-rest c =
    let behind = c.in-Some-strip_prefix.behind in
    let front = strip_prefix_char 39 c.args.text.now (Some behind) c.in-Some-strip_prefix.ensures.cases (lit< tt) in
    let here : raw_value (chars c.args.text.now) ≡ quoted_value 39 (chars behind.now) =
    ap raw_value (chars_behind c.args.text.now behind.now 39 (lit< tt) front) ∙ raw_value-single (chars behind.now) in
    c.cut_quoted_value-in-Some-strip_prefix.ensures.rest ∙ ap (λ (v : RawValue). v.rest) (sym here)

pub returns-clause-value : goal.returns-clause-value
returns-clause-value c =
    let text = c.args.text.now in
    let here : raw_value (chars text) ≡ bare_value (chars text) = raw_value-bare (chars text)
    (not_behind text 34 c.utf8.text (lit< tt) (strip_prefix_char 34 text None c.in_default.ensures.cases (lit< tt)))
    (not_behind text 39 c.utf8.text (lit< tt) (strip_prefix_char 39 text None c.in_default-strip_prefix.ensures.cases (lit< tt))) in
    c.cut_at.ensures.run ∙ ap (λ (v : RawValue). v.value) (sym here)

pub returns-clause-rest : goal.returns-clause-rest
returns-clause-rest c =
    let text = c.args.text.now in
    let here : raw_value (chars text) ≡ bare_value (chars text) = raw_value-bare (chars text)
    (not_behind text 34 c.utf8.text (lit< tt) (strip_prefix_char 34 text None c.in_default.ensures.cases (lit< tt)))
    (not_behind text 39 c.utf8.text (lit< tt) (strip_prefix_char 39 text None c.in_default-strip_prefix.ensures.cases (lit< tt))) in
    c.cut_at.ensures.rest ∙ ap (λ (v : RawValue). v.rest) (sym here)
