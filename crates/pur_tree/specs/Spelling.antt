use Rattle.std.specs.Prelude.{ℕ, List, [], ◌∷◌, ◌++◌, ◌≡◌, ◌==◌, Bool, true, false, ◌&&◌, cond, if◌then◌else◌, codes, encode_utf8_all}
use Rattle.std.specs.List.{list_all, list_any, flat_map}
use Rattle.std.specs.Str.{bytes_eq}
use Rattle.pur_text.specs.Characters.{is_allowed}
use Rattle.pur_text.specs.Escapes.{escape, escaped}
use Rattle.pur_names.specs.declared.elements.Element.{Element}
use Rattle.pur_names.specs.Elements.{element_name}
use Rattle.pur_names.specs.Attributes.{attr_name, all_attrs}
use Rattle.pur_modules.specs.Contents.{is_empty_element}
use Rattle.pur_attrlist.specs.Attributes.{Attribute, is_distinct}
use Rattle.pur_tree.specs.Nodes.{PlainElem, Nodes, no_nodes, text_first, elem_first, starts_with_text}

-- a character as it is written in a value, which stands between quotation marks (XML 1.0, section 2.3)
abbrev pub escape_in_value : ℕ → List ℕ
escape_in_value c = if c == 0x22 then codes "&quot;" else escape c

-- a value written so
unfoldable pub escaped_value : List ℕ → List ℕ
escaped_value value = flat_map escape_in_value value

-- an attribute as it stands in a tag: a space, its name, and its value between quotation marks
abbrev pub attribute_text : Attribute → List ℕ
attribute_text pair = 0x20 ∷ (pair.0 ++ (0x3D ∷ 0x22 ∷ (escaped_value pair.1 ++ (0x22 ∷ []))))

-- all attributes of a tag, in order
abbrev pub attributes_text : List Attribute → List ℕ
attributes_text [] = []
attributes_text (pair ∷ pairs) = attribute_text pair ++ attributes_text pairs

abbrev pub start_tag_of : PlainElem → List ℕ
start_tag_of e = codes "<" ++ (element_name e.name ++ (attributes_text e.attrs ++ codes ">"))

abbrev pub end_tag_of : Element → List ℕ
end_tag_of e = codes "</" ++ (element_name e ++ codes ">")

abbrev pub empty_tag_of : PlainElem → List ℕ
empty_tag_of e = codes "<" ++ (element_name e.name ++ (attributes_text e.attrs ++ codes " />"))

-- the text that nodes are spelled as (XML 1.0 in one of its spellings): an EMPTY element is one empty tag
-- with a space before its slash, any other element its start tag, its children and its end tag; in a text `&`,
-- `<` and `>` are written as references, and in a value `"` too
abbrev pub spelling_of : Nodes → List ℕ
spelling_of no_nodes = []
spelling_of (text_first s rest) = escaped s ++ spelling_of rest
spelling_of (elem_first e kids rest) =
    cond (is_empty_element e.name)
    (empty_tag_of e ++ spelling_of rest)
    (start_tag_of e ++ (spelling_of kids ++ (end_tag_of e.name ++ spelling_of rest)))

-- the text is the name of an attribute of XHTML
abbrev pub is_attr_name : List ℕ → Bool
is_attr_name name = list_any (λ a. bytes_eq (attr_name a) name) all_attrs

-- the attribute has a name of XHTML, and its value has allowed characters alone
abbrev pub is_spellable_attribute : Attribute → Bool
is_spellable_attribute pair = is_attr_name pair.0 && list_all is_allowed pair.1

-- the attributes may stand in a tag: each may, and no two have one name
abbrev pub are_spellable : List Attribute → Bool
are_spellable pairs = list_all is_spellable_attribute pairs && is_distinct pairs

-- texts have allowed characters alone, and the attributes of each element may stand in a tag
abbrev pub is_spellable : Nodes → Bool
is_spellable no_nodes = true
is_spellable (text_first s rest) = list_all is_allowed s && is_spellable rest
is_spellable (elem_first e kids rest) = are_spellable e.attrs && (is_spellable kids && is_spellable rest)

-- the values have allowed characters alone
abbrev pub has_allowed_values : List Attribute → Bool
has_allowed_values pairs = list_all (λ pair. list_all is_allowed pair.1) pairs

-- texts have allowed characters alone, and so have the values of all attributes
abbrev pub has_allowed_characters : Nodes → Bool
has_allowed_characters no_nodes = true
has_allowed_characters (text_first s rest) = list_all is_allowed s && has_allowed_characters rest
has_allowed_characters (elem_first e kids rest) =
    has_allowed_values e.attrs && (has_allowed_characters kids && has_allowed_characters rest)

-- no two attributes of an element have one name
abbrev pub has_distinct_names : Nodes → Bool
has_distinct_names no_nodes = true
has_distinct_names (text_first s rest) = has_distinct_names rest
has_distinct_names (elem_first e kids rest) = is_distinct e.attrs && (has_distinct_names kids && has_distinct_names rest)

-- the nodes are spelled by the text: a text isn't empty, has allowed characters alone and no text beside it, and the
-- attributes of an element may stand in a tag
pub data Spells : Nodes → List ℕ → Type 0 where
  spells_nothing : Spells no_nodes []
  spells_text : {c : ℕ} {s : List ℕ} {rest : Nodes} {t : List ℕ}
      → list_all is_allowed (c ∷ s) ≡ true → starts_with_text rest ≡ false → Spells rest t
      → Spells (text_first (c ∷ s) rest) (escaped (c ∷ s) ++ t)
  spells_empty : {e : PlainElem} {rest : Nodes} {t : List ℕ}
      → is_empty_element e.name ≡ true → are_spellable e.attrs ≡ true → Spells rest t
      → Spells (elem_first e no_nodes rest) (empty_tag_of e ++ t)
  spells_element : {e : PlainElem} {kids rest : Nodes} {u t : List ℕ}
      → is_empty_element e.name ≡ false → are_spellable e.attrs ≡ true → Spells kids u → Spells rest t
      → Spells (elem_first e kids rest) (start_tag_of e ++ (u ++ (end_tag_of e.name ++ t)))

-- bytes are, in UTF-8, the text that the nodes are spelled as
pub record AreSpelled (nodes : Nodes) (bytes : List ℕ) : Type 0 where
  pub text : List ℕ
  pub spells : Spells nodes text
  pub in_utf8 : bytes ≡ encode_utf8_all text
