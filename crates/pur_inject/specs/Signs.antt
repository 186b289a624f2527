-- Nodes as signs: the characters of their own texts and their elements, one after another. Texts that are neighbours are one
-- text there.
use Rattle.std.specs.Prelude.{ℕ, List, [], ◌∷◌, ◌++◌, map}
use Rattle.pur_tree.specs.Nodes.{PlainElem, Nodes, no_nodes, text_first, elem_first}
use Rattle.pur_tree.specs.Walks.{text_joined}

-- a character, an element with its children, or a blank line, which stands for two line feeds
pub data Sign : Type 0 where
  letter : ℕ → Sign
  element : PlainElem → Nodes → Sign
  blank_line : Sign

abbrev pub letters : List ℕ → List Sign
letters text = map letter text

-- the signs of nodes
abbrev pub signs_of : Nodes → List Sign
signs_of no_nodes = []
signs_of (text_first s rest) = letters s ++ signs_of rest
signs_of (elem_first e kids rest) = element e kids ∷ signs_of rest

abbrev pub two_line_feeds : List ℕ
two_line_feeds = 0xA ∷ 0xA ∷ []

-- signs in front of nodes; characters that are neighbours are one text
abbrev pub sign_before : Sign → Nodes → Nodes
sign_before (letter c) more = text_joined (c ∷ []) more
sign_before (element e kids) more = elem_first e kids more
sign_before blank_line more = text_joined two_line_feeds more

abbrev pub signs_before : List Sign → Nodes → Nodes
signs_before [] more = more
signs_before (x ∷ signs) more = sign_before x (signs_before signs more)

-- the nodes of signs
abbrev pub nodes_from : List Sign → Nodes
nodes_from signs = signs_before signs no_nodes
