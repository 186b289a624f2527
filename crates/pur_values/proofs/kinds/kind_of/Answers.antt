use Rattle.std.proofs.Common.{◌∙◌}
use Rattle.pur_values.proofs.TableLemmas.{kinds_are}
use Rattle.pur_values.proofs.kinds.kind_of.Goals as goal

pub returns-clause-value : goal.returns-clause-value
returns-clause-value c = c.declared_kind.ensures.value ∙ kinds_are c.args.element c.args.attr
