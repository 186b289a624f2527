use Rattle.std.proofs.Common.{◌∙◌}
use Rattle.pur_laws.proofs.Cases.{empty-chars}
use Rattle.pur_values.proofs.numbers.is_nothing.Goals as goal

pub returns : goal.returns
returns c = c.is_empty.ensures ∙ empty-chars c.args.text.now c.utf8.text
