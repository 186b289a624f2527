-- Nodes gone through from the leaves up.
use Rattle.std.specs.Prelude.{ℕ, ◌+◌, List, ◌++◌}
use Rattle.pur_attrlist.specs.Texts.{times}
use Rattle.pur_tree.specs.Nodes.{PlainElem, Nodes, no_nodes, text_first, elem_first, nodes_append}

-- nodes gone through from the leaves up: texts stay, and in an element's place stands what the rule makes of it and of its
-- children, which were gone through before
abbrev pub walk : (PlainElem → Nodes → Nodes) → Nodes → Nodes
walk rule no_nodes = no_nodes
walk rule (text_first s rest) = text_first s (walk rule rest)
walk rule (elem_first e kids rest) = nodes_append (rule e (walk rule kids)) (walk rule rest)

-- what is lost on the way, where it is known what is lost at each element
abbrev pub lost_in_walk : (PlainElem → Nodes → Nodes) → (PlainElem → Nodes → ℕ) → Nodes → ℕ
lost_in_walk rule lost no_nodes = 0
lost_in_walk rule lost (text_first s rest) = lost_in_walk rule lost rest
lost_in_walk rule lost (elem_first e kids rest) =
    lost_in_walk rule lost kids + (lost e (walk rule kids) + lost_in_walk rule lost rest)

-- a text before nodes; a text there becomes one with it
abbrev pub text_joined : List ℕ → Nodes → Nodes
text_joined s (text_first t rest) = text_first (s ++ t) rest
text_joined s nodes = text_first s nodes

-- nodes in which neighbouring texts are one, at every depth
abbrev pub joined_nodes : Nodes → Nodes
joined_nodes no_nodes = no_nodes
joined_nodes (text_first s rest) = text_joined s (joined_nodes rest)
joined_nodes (elem_first e kids rest) = elem_first e (joined_nodes kids) (joined_nodes rest)

-- how often a character, given as its number, stands in the texts at any depth
abbrev pub count_in_text : ℕ → Nodes → ℕ
count_in_text c no_nodes = 0
count_in_text c (text_first s rest) = times c s + count_in_text c rest
count_in_text c (elem_first e kids rest) = count_in_text c kids + count_in_text c rest
