use Rattle.std.proofs.Common.{false}
use Rattle.pur_values.proofs.FixedValueLemmas.{value_fixed}
use Rattle.pur_values.proofs.laws.canonical_is_read_as_itself.Goals as goal

pub returns : goal.returns
returns c = value_fixed (c.color_is_read.ensures false) c.colors_are_digits.ensures
