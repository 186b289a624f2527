use Rattle.std.proofs.Common.{◌∙◌, ap, sym}
use Rattle.pur_modules.proofs.NameLaws.{element_named-chars}
use Rattle.pur_settings.specs.Rules.{permits_found}
use Rattle.pur_sheet.proofs.compounds.permits_name.Goals as goal

pub returns-in-Some : goal.returns-in-Some
returns-in-Some c =
    c.permits.ensures
    ∙ ap (permits_found c.args.settings.now) (c.in-Some.ensures.value ∙ sym (element_named-chars c.args.name.now c.utf8.name))

pub returns-in-None : goal.returns-in-None
returns-in-None c =
    ap (permits_found c.args.settings.now) (c.in-None.ensures.value ∙ sym (element_named-chars c.args.name.now c.utf8.name))
