-- The name is looked up by its bytes.
use Rattle.std.proofs.Common.{◌≡◌, ◌∙◌, Some, None, ap, sym}
use Rattle.std.specs.Option.{option_map_or}
use Rattle.std.specs.Str.{chars}
use Rattle.std.proofs.lemmas.Result.{IfOk-weaker}
use Rattle.pur_attrlist.specs.Texts.{text_of}
use Rattle.pur_names.specs.Attributes.{attr_named}
use Rattle.pur_absolute.specs.Absolute.{absolute_on, absolute_value}
use Rattle.pur_absolute.proofs.TextLemmas.{named-chars}
use Rattle.pur_absolute.proofs.attributes.absolute_value.Goals as goal

pub returns-in-Some : goal.returns-in-Some
unfolding absolute_value
returns-in-Some g c =
    let name = c.args.name.now in
    let value = text_of c.args.value in
    let found : Some c.in-Some.attr ≡ attr_named (chars name) = sym c.in-Some.is ∙ c.from_name.ensures.value ∙ named-chars name c.utf8.name in
    IfOk-weaker c.absolute_on.result _ _
    (λ read is allows answers. is allows answers ∙ ap (λ o. option_map_or (λ attr. absolute_on allows c.args.base.now attr value) o (Some value)) found)
    c.absolute_on.ensures

pub returns-in-None : goal.returns-in-None
unfolding absolute_value
returns-in-None g c =
    let name = c.args.name.now in
    let value = text_of c.args.value in
    let none : None ≡ attr_named (chars name) = sym c.in-None.is ∙ c.from_name.ensures.value ∙ named-chars name c.utf8.name in
    λ allows answers. ap (λ o. option_map_or (λ attr. absolute_on allows c.args.base.now attr value) o (Some value)) none
