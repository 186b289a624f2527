-- Tags in their parts.
use Rattle.std.specs.Prelude.{ℕ, ◌≡◌, ◌==◌, ◌||◌, length, Bool, true, false, List, [], ◌∷◌, ◌++◌}
use Rattle.std.specs.List.{list_any}
use Rattle.std.specs.Str.{bytes_eq}
use Rattle.pur_names.specs.Elements.{element_name}
use Rattle.pur_attrlist.specs.Attributes.{Attribute}
use Rattle.pur_tree.specs.Nodes.{PlainElem}
use Rattle.pur_tree.specs.Spelling.{attributes_text, are_spellable}

-- what an empty tag has before its end, and a start tag hasn't
abbrev pub end_text : Bool → List ℕ
end_text true = 0x20 ∷ 0x2F ∷ []
end_text false = []

-- a tag without its first and its last character
abbrev pub tag_text : PlainElem → Bool → List ℕ
tag_text e is_empty = element_name e.name ++ (attributes_text e.attrs ++ end_text is_empty)

-- the text is the rest of a tag in which these attributes stand already
pub record IsTagRest (attrs : List Attribute) (rest : List ℕ) : Type 0 where
  pub more : List Attribute
  pub is_empty : Bool
  pub good : are_spellable (attrs ++ more) ≡ true
  pub is : attributes_text more ++ end_text is_empty ≡ rest

-- an attribute, its name and its value as it is written, in front of what stands behind it
abbrev pub raw_attribute : List ℕ → List ℕ → List ℕ → List ℕ
raw_attribute name value behind = 0x20 ∷ (name ++ 0x3D ∷ 0x22 ∷ (value ++ 0x22 ∷ behind))

-- a text with an attribute's parts in front
pub record IsAttributeFront (name value behind text : List ℕ) : Type 0 where
  pub no_equals : list_any (λ c. c == 0x3D) name ≡ false
  pub no_quote : list_any (λ c. c == 0x22) value ≡ false
  pub is : text ≡ raw_attribute name value behind

-- no attribute is left
abbrev pub is_end : List ℕ → Bool
is_end text = (length text == 0) || bytes_eq text (end_text true)
