use Rattle.std.proofs.Common.{◌∙◌}
use Rattle.pur_cssprops.proofs.PropertyLemmas.{prop_named-chars}
use Rattle.pur_cssprops.proofs.styles.property_named.Goals as goal

pub returns : goal.returns
returns c = c.from_name.ensures.value ∙ prop_named-chars c.args.name.now c.utf8.name
