-- What an index of the names of stored pairs stands for.
use Rattle.std.specs.Prelude.{ℕ, ◌≡◌, List, String}
use Rattle.std.specs.BTreeMap.{BTreeMap, get_by_text}
use Rattle.std.specs.Str.{chars, IsUtf8}
use Rattle.std.specs.declared.alloc.Global.{Global}
use Rattle.pur_attrlist.specs.Attributes.{Attribute, names_of}
use Rattle.pur_attrlist.specs.Private.Places.{place_of}

-- the map has each name with its first place, and no other name
pub record IsIndexOf (places : BTreeMap (String Global) ℕ) (pairs : List Attribute) : Type 0 where
  pub finds : (name : List ℕ) → IsUtf8 name → get_by_text places name ≡ place_of (names_of pairs) (chars name)
