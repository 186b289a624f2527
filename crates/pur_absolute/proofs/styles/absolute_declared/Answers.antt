use Rattle.std.proofs.Common.{◌≡◌, ◌∙◌, Some, None, ap, sym}
use Rattle.std.specs.Option.{option_and_then, option_map, option_map_or}
use Rattle.std.specs.Str.{chars}
use Rattle.std.proofs.lemmas.Result.{IfOk-weaker}
use Rattle.pur_attrlist.specs.Texts.{text_of}
use Rattle.pur_csstok.specs.Written.{pair_of}
use Rattle.pur_absolute.specs.Absolute.{absolute_declared, absolute_text, url_in, url_without_comment}
use Rattle.pur_absolute.proofs.styles.absolute_declared.Goals as goal

pub returns-in-Some : goal.returns-in-Some
unfolding absolute_declared
returns-in-Some g c =
    let base = c.args.base.now in
    let pair = pair_of c.args.declaration.now in
    let read : Some (text_of c.in-Some.url) ≡ url_in pair = ap (option_map text_of) (sym c.in-Some.is) ∙ c.in_ok-url.ensures in
    IfOk-weaker c.absolute_url.result _ _
    (λ found is allows answers.
    is allows answers
    ∙ ap (λ t. option_and_then url_without_comment (absolute_text allows base (chars t))) c.as_str.ensures.value
    ∙ ap (λ o. option_map_or (λ text. option_and_then url_without_comment (absolute_text allows base text)) o (Some pair.1)) read)
    c.absolute_url.ensures

pub returns-in_ok-same-in-None : goal.returns-in_ok-same-in-None
unfolding absolute_declared
returns-in_ok-same-in-None g c =
    let base = c.args.base.now in
    let pair = pair_of c.args.declaration.now in
    let read : None ≡ url_in pair = ap (option_map text_of) (sym c.in-None.is) ∙ c.in_ok-url.ensures in
    λ allows answers.
    ap (λ t. Some (chars t)) (c.in_ok-same-in-None.ensures.ok ∙ c.as_str-in-None.ensures.value)
    ∙ ap (λ o. option_map_or (λ text. option_and_then url_without_comment (absolute_text allows base text)) o (Some pair.1)) read
