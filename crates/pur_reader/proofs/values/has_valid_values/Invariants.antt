-- What is left is valid where all are.
use Rattle.std.proofs.Common.{◌≡◌, drop}
use Rattle.std.specs.List.{list_all}
use Rattle.pur_validity.specs.Attributes.{is_valid_attribute}
use Rattle.pur_reader.proofs.values.has_valid_values.Given as goal

abbrev pub invariant-loop-at : goal.invariant-loop-at
invariant-loop-at g l = list_all (is_valid_attribute l.settings l.gate l.element) (drop l.at l.attrs) ≡ list_all (is_valid_attribute l.settings l.gate l.element) l.attrs
