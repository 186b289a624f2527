-- What the name names decides.
use Rattle.std.proofs.Common.{◌∙◌, ap, sym}
use Rattle.std.specs.Str.{chars}
use Rattle.pur_modules.proofs.NameLaws.{element_named-chars}
use Rattle.pur_names.specs.Elements.{element_named}
use Rattle.pur_foreign.specs.Removal.{end_image}
use Rattle.pur_foreign.proofs.removal.kept_end.Goals as goal

pub returns : goal.returns
returns c =
    let named = c.from_name.ensures.value ∙ sym (element_named-chars c.as_str.result.now c.as_str.utf8) in
    ap (end_image c.args.settings.now) (sym c.in-None.is ∙ named ∙ ap (λ t. element_named (chars t)) c.as_str.ensures.value)

pub returns-in-Some : goal.returns-in-Some
returns-in-Some c =
    let named = c.from_name.ensures.value ∙ sym (element_named-chars c.as_str.result.now c.as_str.utf8) in
    c.permitted_in_place.ensures
    ∙ ap (end_image c.args.settings.now) (sym c.in-Some.is ∙ named ∙ ap (λ t. element_named (chars t)) c.as_str.ensures.value)
