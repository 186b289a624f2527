use Rattle.std.specs.Prelude.{ℕ, ◌+◌, Bool, true, false, ◌&&◌, not, List, [], ◌∷◌, ◌++◌, ◌≡◌, cond}
use Rattle.pur_names.specs.declared.elements.Element.{Element}
use Rattle.pur_modules.specs.Contents.{is_empty_element}
use Rattle.pur_attrlist.specs.Texts.{times}
use Rattle.pur_tree.specs.Nodes.{PlainElem, Nodes, no_nodes, text_first, elem_first}

-- a token of a document written out flat: a text, or the start tag, the end tag or the empty tag of an element;
-- an end tag has a name alone
pub data Token : Type 0 where
  text_token : List ℕ → Token
  start_token : PlainElem → Token
  end_token : Element → Token
  empty_token : PlainElem → Token

-- what opens an element: its start tag, and for an EMPTY element its empty tag
abbrev pub opening_of : PlainElem → Token
opening_of e = cond (is_empty_element e.name) (empty_token e) (start_token e)

-- what closes an element: its end tag, and for an EMPTY element nothing
abbrev pub closing_of : Element → List Token
closing_of e = cond (is_empty_element e) [] (end_token e ∷ [])

-- the flat list of tokens that writes nodes out
abbrev pub tokens_of_nodes : Nodes → List Token
tokens_of_nodes no_nodes = []
tokens_of_nodes (text_first s rest) = text_token s ∷ tokens_of_nodes rest
tokens_of_nodes (elem_first e kids rest) = opening_of e ∷ (tokens_of_nodes kids ++ (closing_of e.name ++ tokens_of_nodes rest))

-- the nodes are the tree of a flat list of tokens
abbrev pub IsTreeOf : Nodes → List Token → Type 0
IsTreeOf nodes tokens = tokens_of_nodes nodes ≡ tokens

-- a token in front of others: two texts that become neighbours are one
abbrev pub join_token : Token → List Token → List Token
join_token (text_token s) (text_token t ∷ more) = text_token (s ++ t) ∷ more
join_token token tokens = token ∷ tokens

-- the tokens in which neighbouring texts are one
abbrev pub joined : List Token → List Token
joined [] = []
joined (t ∷ ts) = join_token t (joined ts)

-- the list begins with a text
abbrev pub begins_with_text : List Token → Bool
begins_with_text (text_token s ∷ tokens) = true
begins_with_text tokens = false

-- no texts are neighbours
abbrev pub has_no_neighbours : List Token → Bool
has_no_neighbours [] = true
has_no_neighbours (text_token s ∷ tokens) = not (begins_with_text tokens) && has_no_neighbours tokens
has_no_neighbours (token ∷ tokens) = has_no_neighbours tokens

-- how often a character, given as its number, stands in the texts of tokens that are written out
abbrev pub count_in_written : ℕ → List Token → ℕ
count_in_written c [] = 0
count_in_written c (text_token s ∷ tokens) = times c s + count_in_written c tokens
count_in_written c (token ∷ tokens) = count_in_written c tokens

-- the nodes at the place where a list of tokens begins, and, for each element that ends in the list and
-- doesn't begin there, the nodes after that element, innermost first
pub record Levels : Type 0 where
  pub here : Nodes
  pub outer : List Nodes

abbrev pub first_level : List Nodes → Nodes
first_level [] = no_nodes
first_level (nodes ∷ more) = nodes

abbrev pub other_levels : List Nodes → List Nodes
other_levels [] = []
other_levels (nodes ∷ more) = more

-- a token in front: a start tag takes the nodes up to the end tag that fits it as its element's children
abbrev pub with_token : Token → Levels → Levels
with_token (text_token s) l = record { here = text_first s l.here; outer = l.outer }
with_token (empty_token e) l = record { here = elem_first e no_nodes l.here; outer = l.outer }
with_token (end_token e) l = record { here = no_nodes; outer = l.here ∷ l.outer }
with_token (start_token e) l = record { here = elem_first e l.here (first_level l.outer); outer = other_levels l.outer }

abbrev pub levels_of : List Token → Levels
levels_of [] = record { here = no_nodes; outer = [] }
levels_of (t ∷ ts) = with_token t (levels_of ts)

-- the tree of a flat list of tokens in which each start tag has its end tag
abbrev pub tree_of : List Token → Nodes
tree_of tokens = (levels_of tokens).here

-- each start tag has its end tag, inside the elements that are open, the innermost first; an EMPTY element has its empty tag alone
pub data IsBalanced : List Element → List Token → Type 0 where
  balanced_nothing : IsBalanced [] []
  balanced_text : {es : List Element} {s : List ℕ} {ts : List Token} → IsBalanced es ts → IsBalanced es (text_token s ∷ ts)
  balanced_empty : {es : List Element} {e : PlainElem} {ts : List Token} → is_empty_element e.name ≡ true → IsBalanced es ts → IsBalanced es (empty_token e ∷ ts)
  balanced_start : {es : List Element} {e : PlainElem} {ts : List Token} → is_empty_element e.name ≡ false → IsBalanced (e.name ∷ es) ts → IsBalanced es (start_token e ∷ ts)
  balanced_stop : {es : List Element} {e : Element} {ts : List Token} → is_empty_element e ≡ false → IsBalanced es ts → IsBalanced (e ∷ es) (end_token e ∷ ts)
