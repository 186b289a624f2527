-- What is left is there where all are.
use Rattle.std.proofs.Common.{◌≡◌, drop}
use Rattle.std.specs.List.{list_all}
use Rattle.pur_names.specs.Attributes.{attr_name}
use Rattle.pur_attrlist.specs.Attributes.{has_name}
use Rattle.pur_reader.proofs.values.has_required.Given as goal

abbrev pub invariant-loop-attr : goal.invariant-loop-attr
invariant-loop-attr l = list_all (λ attr. has_name l.attrs (attr_name attr)) (drop l.attr-index l.wanted) ≡ list_all (λ attr. has_name l.attrs (attr_name attr)) l.wanted
