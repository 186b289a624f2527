-- A style in front of that which attributes have (CSS 2.1, section 6.4.1: of two declarations of a property the later counts, so
-- what an author wrote stands behind).
use Rattle.std.specs.Prelude.{ℕ, List, [], ◌++◌, Option, Some, None, codes}
use Rattle.pur_attrlist.specs.Attributes.{Attribute, value_of, with_value}

-- the value that is there, or the empty text
abbrev pub text_or_none : Option (List ℕ) → List ℕ
text_or_none None = []
text_or_none (Some text) = text

-- a style in front of that which attributes have; the empty style changes nothing
abbrev pub with_style : List ℕ → List Attribute → List Attribute
with_style [] attrs = attrs
with_style style attrs = with_value attrs (codes "style") (style ++ text_or_none (value_of attrs (codes "style")))
