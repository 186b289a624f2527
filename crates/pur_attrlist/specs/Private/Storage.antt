-- The list of attributes that either form of storage holds.
use Rattle.std.specs.Prelude.{List, [], map, Option, Some, None}
use Rattle.std.specs.declared.alloc.Global.{Global}
use Rattle.std.specs.declared.boxed.Box.{Box}
use Rattle.pur_attrlist.specs.Attributes.{Attribute}
use Rattle.pur_attrlist.specs.Private.Stored.{attribute_in}
use Rattle.pur_attrlist.specs.declared.pairs_in_order.PairsInOrder.{PairsInOrder}
use Rattle.pur_attrlist.specs.declared.stored_pairs.StoredPairs.{StoredPairs}
use Rattle.pur_attrlist.specs.declared.pairs_in_order.PairsInOrder.TheVariants.{Plain, Indexed}

-- all attributes, in order
abbrev pub attributes_of : PairsInOrder → List Attribute
attributes_of (Plain plain) = map attribute_in plain.items
attributes_of (Indexed indexed) = indexed

-- those behind a pointer, where there is one
abbrev pub held_in : Option (Box PairsInOrder Global) → List Attribute
held_in None = []
held_in (Some held) = attributes_of held.value

abbrev pub stored_of : StoredPairs → List Attribute
stored_of stored = held_in stored.held
