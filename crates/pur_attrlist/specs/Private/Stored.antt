-- The texts and the attributes that are kept.
use Rattle.std.specs.Prelude.{ℕ, List}
use Rattle.pur_attrlist.specs.Texts.{text_of}
use Rattle.pur_attrlist.specs.Attributes.{Attribute}
use Rattle.pur_attrlist.specs.declared.stored_pair.StoredPair.{StoredPair}
use Rattle.pur_attrlist.specs.declared.stored_text.StoredText.{StoredText}
use Rattle.pur_attrlist.specs.declared.stored_text.StoredText.TheVariants.{Short, Long}

-- the characters of either form of text
abbrev pub text_in : StoredText → List ℕ
text_in (Short short) = short
text_in (Long long) = text_of long.value

-- the attribute that a pair is
abbrev pub attribute_in : StoredPair → Attribute
attribute_in pair = (text_in pair.name, text_in pair.value)
