-- What a pair that is given out stands for.
use Rattle.pur_attrlist.specs.Texts.{text_of}
use Rattle.pur_attrlist.specs.Attributes.{Attribute}
use Rattle.pur_attrlist.specs.declared.pair.Pair.{Pair}

-- the attribute that a pair is
abbrev pub attribute_of : Pair → Attribute
attribute_of pair = (text_of pair.name, text_of pair.value)
