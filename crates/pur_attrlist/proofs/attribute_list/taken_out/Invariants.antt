use Rattle.std.proofs.Common.{◌≡◌, ◌++◌, map}
use Rattle.pur_attrlist.specs.Pairs.{attribute_of}
use Rattle.pur_attrlist.specs.Private.Stored.{attribute_in}
use Rattle.pur_attrlist.proofs.attribute_list.taken_out.Given as goal

abbrev pub invariant-loop-pair : goal.invariant-loop-pair
invariant-loop-pair l = map attribute_of l.pairs.items ++ map attribute_in l.pair-iterator.rest.items ≡ map attribute_in l.fn.stored.items
