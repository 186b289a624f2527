use Rattle.std.proofs.Common.{◌∙◌, refl, sym}
use Rattle.pur_settings.proofs.ItemLemmas.{covered_as}
use Rattle.pur_settings.proofs.site_settings.has_cover.Goals as goal

pub returns-then-has_name : goal.returns-then-has_name
returns-then-has_name c =
    c.if-has_name.true ∙ sym (covered_as c.args.element c.args.attr c.args.items.now _ _ _ _ (sym c.if-has_name.ensures) refl refl refl)

pub returns-then-has_name-2 : goal.returns-then-has_name-2
returns-then-has_name-2 c =
    c.if-has_name-2.true
    ∙ sym (covered_as c.args.element c.args.attr c.args.items.now _ _ _ _ (sym c.if-has_name.ensures) (sym c.if-is_lang.ensures) (sym c.if-has_name-2.ensures) refl)

pub returns-else-has_name-2 : goal.returns-else-has_name-2
returns-else-has_name-2 c =
    c.has_name-else-has_name-2.ensures
    ∙ sym (covered_as c.args.element c.args.attr c.args.items.now _ _ _ _ (sym c.if-has_name.ensures) (sym c.if-is_lang.ensures) (sym c.if-has_name-2.ensures) refl)
