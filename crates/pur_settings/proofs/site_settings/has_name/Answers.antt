use Rattle.std.proofs.Common.{◌∙◌, ◌||◌, ap, sym}
use Rattle.pur_settings.specs.Items.{item_rank}
use Rattle.pur_settings.specs.Sets.{is_in}
use Rattle.pur_settings.specs.declared.items.Item.TheVariants.{On}
use Rattle.pur_settings.proofs.ItemLemmas.{named_by}
use Rattle.pur_settings.proofs.site_settings.has_name.Goals as goal

pub returns-then-contains : goal.returns-then-contains
returns-then-contains c =
    let on = is_in item_rank c.args.items.now (On c.args.element c.args.attr) in
    c.if-contains.true ∙ sym (named_by c.args.element c.args.attr c.args.items.now ∙ ap (λ b. b || on) (sym c.if-contains.ensures))

pub returns-else-contains : goal.returns-else-contains
returns-else-contains c =
    let on = is_in item_rank c.args.items.now (On c.args.element c.args.attr) in
    c.contains-else-contains.ensures ∙ sym (named_by c.args.element c.args.attr c.args.items.now ∙ ap (λ b. b || on) (sym c.if-contains.ensures))
