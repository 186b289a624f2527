use Rattle.std.proofs.Common.{◌≡◌, ◌≤◌, ◌+◌, ◌-◌, ◌^◌, ℕ, min, drop}
use Rattle.pur_attrlist.specs.Attributes.{weight_of}
use Rattle.pur_attrlist.specs.Private.Storage.{stored_of}
use Rattle.pur_attrlist.proofs.attribute_list.AttrList.weight.Given as goal

-- what is counted with what is left to count
pub record Counted (counted left all : ℕ) : Type 0 where
  pub fits : counted ≤ 2 ^ 64 - 1
  pub sum : min (counted + left) (2 ^ 64 - 1) ≡ min all (2 ^ 64 - 1)

abbrev pub invariant-loop-at : goal.invariant-loop-at
invariant-loop-at l =
    let pairs = stored_of l.self-inside.pairs in
    Counted l.weight (weight_of (drop l.at pairs)) (weight_of pairs)
