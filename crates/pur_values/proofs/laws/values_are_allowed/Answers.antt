use Rattle.pur_values.proofs.AllowedLemmas.{value_allowed}
use Rattle.pur_values.proofs.laws.values_are_allowed.Goals as goal

pub returns : goal.returns
returns c = value_allowed c.colors_are_digits.ensures
