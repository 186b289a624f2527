use Rattle.std.proofs.Common.{◌≡◌, take}
use Rattle.pur_attrlist.specs.Private.Storage.{attributes_of}
use Rattle.pur_attrlist.proofs.pairs_in_order.PairsInOrder.copied_into.Given as goal

abbrev pub invariant-loop-at : goal.invariant-loop-at
invariant-loop-at l = attributes_of l.copy ≡ take l.at (attributes_of l.self)
