use Rattle.std.proofs.Common.{not, sym, ap, ◌∙◌}
use Rattle.pur_modules.proofs.AttributeLaws.{outside_forms}
use Rattle.pur_modules.proofs.attribute_lists.is_outside_forms.Goals as goal

pub returns : goal.returns
returns c = ap not c.is_of_none_else.ensures ∙ sym (outside_forms c.args.attr)
