-- What the code has when it has gone through some of the attributes.
use Rattle.std.specs.Prelude.{List, Option, None, Some}
use Rattle.pur_attrlist.specs.Attributes.{Attribute, with_new}

-- attributes with one more, if there is one, unless its name is there
abbrev pub with_one : List Attribute → Option Attribute → List Attribute
with_one attrs None = attrs
with_one attrs (Some pair) = with_new attrs pair.0 pair.1
