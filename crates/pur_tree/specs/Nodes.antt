use Rattle.std.specs.Prelude.{ℕ, List, [], length, Bool, true, false, max, ◌&&◌, ◌||◌, not, nat_lt}
use Rattle.pur_names.specs.declared.elements.Element.{Element}
use Rattle.pur_modules.specs.Contents.{is_empty_element}
use Rattle.pur_attrlist.specs.Attributes.{Attribute}
use Rattle.pur_tree.specs.Places.{Place, fragment, inside}

-- an element without its children: its name and its attributes, in order
pub record PlainElem : Type 0 where
  pub name : Element
  pub attrs : List Attribute

-- an element of this name and these attributes
abbrev pub plain_elem : Element → List Attribute → PlainElem
plain_elem name attrs = record { name = name; attrs = attrs }

-- an element without attributes
abbrev pub bare : Element → PlainElem
bare name = plain_elem name []

-- a list of nodes as contracts see it: none, or a first node and the nodes after it;
-- a text is the list of its characters, an element has a name, attributes and its children
pub data Nodes : Type 0 where
  no_nodes : Nodes
  text_first : List ℕ → Nodes → Nodes
  elem_first : PlainElem → Nodes → Nodes → Nodes

-- the nodes of one list, and after them those of another
abbrev pub nodes_append : Nodes → Nodes → Nodes
nodes_append no_nodes more = more
nodes_append (text_first s rest) more = text_first s (nodes_append rest more)
nodes_append (elem_first e kids rest) more = elem_first e kids (nodes_append rest more)

-- the greatest level of an element of nodes that stand in a place, and 0 where there is no element
abbrev pub level_in : Place → Nodes → ℕ
level_in at no_nodes = 0
level_in at (text_first s rest) = level_in at rest
level_in at (elem_first e kids rest) = max (max (inside at e.name).level (level_in (inside at e.name) kids)) (level_in at rest)

-- the level of a fragment's nodes
abbrev pub level_of : Nodes → ℕ
level_of nodes = level_in fragment nodes

-- the list begins with a text
abbrev pub starts_with_text : Nodes → Bool
starts_with_text no_nodes = false
starts_with_text (text_first s rest) = true
starts_with_text (elem_first e kids rest) = false

-- no texts are neighbours, at any depth
abbrev pub is_joined : Nodes → Bool
is_joined no_nodes = true
is_joined (text_first s rest) = not (starts_with_text rest) && is_joined rest
is_joined (elem_first e kids rest) = is_joined kids && is_joined rest

-- there is no node
abbrev pub has_no_nodes : Nodes → Bool
has_no_nodes no_nodes = true
has_no_nodes (text_first s rest) = false
has_no_nodes (elem_first e kids rest) = false

-- no text is empty, and EMPTY elements have no children
abbrev pub is_sound : Nodes → Bool
is_sound no_nodes = true
is_sound (text_first s rest) = nat_lt 0 (length s) && is_sound rest
is_sound (elem_first e kids rest) = (not (is_empty_element e.name) || has_no_nodes kids) && (is_sound kids && is_sound rest)
