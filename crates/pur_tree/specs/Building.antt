use Rattle.std.specs.Prelude.{ℕ, ◌≤◌, List, [], ◌∷◌, ◌++◌, ◌≡◌, Bool, true, false, not}
use Rattle.pur_names.specs.declared.elements.Element.{Element}
use Rattle.pur_names.specs.declared.elements.Element.TheVariants.{P}
use Rattle.pur_tree.specs.declared.node.Node.{Node}
use Rattle.pur_tree.specs.declared.builder.Outer.{Outer}
use Rattle.pur_modules.specs.Contents.{is_empty_element}
use Rattle.pur_tree.specs.Nodes.{PlainElem, Nodes, no_nodes, text_first, elem_first, nodes_append, level_in, is_sound, is_joined}
use Rattle.pur_tree.specs.Image.{nodes_of}
use Rattle.pur_tree.specs.Places.{Place, fragment, level_limit}
use Rattle.pur_tree.specs.Tokens.{Token, opening_of, closing_of, tokens_of_nodes}

-- a builder as contracts see it: its open elements, outermost first, each with the nodes that stand before it;
-- the innermost one's children so far; and the text at their end
abbrev pub Building : Type 0
Building = List Outer × List Node × List ℕ

-- an open element, without its children
abbrev pub elem_of : Outer → PlainElem
elem_of o = record { name = o.name; attrs = o.attrs }

-- a run of text as nodes: no node where it is empty
abbrev pub text_nodes : List ℕ → Nodes
text_nodes [] = no_nodes
text_nodes (c ∷ s) = text_first (c ∷ s) no_nodes

-- the children so far of the innermost open element
abbrev pub children_of : Building → Nodes
children_of b = nodes_append (nodes_of b.1) (text_nodes b.2)

-- the open elements, outermost first
abbrev pub opened_by : List Outer → List Element
opened_by [] = []
opened_by (o ∷ os) = o.name ∷ opened_by os

abbrev pub opened_of : Building → List Element
opened_of b = opened_by b.0

-- the tokens that were written before the children of the innermost open element
abbrev pub written_before : List Outer → List Token
written_before [] = []
written_before (o ∷ os) = tokens_of_nodes (nodes_of o.before.items) ++ (opening_of (elem_of o) ∷ written_before os)

-- the tokens that were written so far
abbrev pub written_of : Building → List Token
written_of b = written_before b.0 ++ tokens_of_nodes (children_of b)

-- the tokens that close open elements, given outermost first
abbrev pub closings_of : List Element → List Token
closings_of [] = []
closings_of (e ∷ es) = closings_of es ++ closing_of e

-- the innermost of the open elements, where there is one, may have children
abbrev pub can_hold : List Element → Bool
can_hold [] = true
can_hold (e ∷ []) = not (is_empty_element e)
can_hold (e ∷ f ∷ es) = can_hold (f ∷ es)

-- the innermost of open elements; where there is none, this says nothing
abbrev pub last_of : List Element → Element
last_of [] = P
last_of (e ∷ []) = e
last_of (e ∷ f ∷ es) = last_of (f ∷ es)

-- the nodes that there would be if each open element ended now
abbrev pub finished : List Outer → Nodes → Nodes
finished [] kids = kids
finished (o ∷ os) kids = nodes_append (nodes_of o.before.items) (elem_first (elem_of o) (finished os kids) no_nodes)

-- the last of the nodes is a text
abbrev pub ends_with_text : Nodes → Bool
ends_with_text no_nodes = false
ends_with_text (text_first s no_nodes) = true
ends_with_text (text_first s (text_first t rest)) = ends_with_text (text_first t rest)
ends_with_text (text_first s (elem_first e kids rest)) = ends_with_text rest
ends_with_text (elem_first e kids rest) = ends_with_text rest

-- nodes in a place, in which no level passes the limit, no text is empty, EMPTY elements have no children and no
-- texts are neighbours
pub record Fits (at : Place) (nodes : Nodes) : Type 0 where
  pub low : level_in at nodes ≤ level_limit
  pub sound : is_sound nodes ≡ true
  pub joined : is_joined nodes ≡ true

-- what every builder keeps: what it would give now is a forest without neighbouring texts
pub record IsBuilding (b : Building) : Type 0 where
  pub fits : Fits fragment (finished b.0 (children_of b))
  pub ended : ends_with_text (nodes_of b.1) ≡ false
