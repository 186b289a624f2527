use Rattle.std.specs.Prelude.{ℕ, ◌+◌, ◌≤◌, Bool, false, zero, suc, List, [], ◌∷◌, ◌++◌, ◌≡◌, true}
use Rattle.pur_names.specs.declared.elements.Element.{Element}
use Rattle.pur_names.specs.declared.elements.Element.TheVariants.{Table, Td, Tr}
use Rattle.pur_modules.specs.Contents.{is_empty_element}
use Rattle.pur_tree.specs.Nodes.{PlainElem, Nodes, bare, no_nodes, elem_first, is_joined, is_sound, level_of}
use Rattle.pur_tree.specs.Places.{Place, inside, level_limit, LevelFits}
use Rattle.pur_tree.specs.Forests.{IsForest}
use Rattle.pur_tree.specs.Properties.{Holds, levels, soundness}
use Rattle.pur_tree.specs.Walks.{walk, lost_in_walk, joined_nodes, count_in_text}
use Rattle.pur_tree.specs.Tokens.{Token, IsBalanced, IsTreeOf, tree_of, tokens_of_nodes, joined, has_no_neighbours, count_in_written}
use Rattle.pur_tree.specs.Spelling.{Spells, spelling_of, is_spellable}

-- a text spells at most one list of nodes
abbrev pub SpellsAtMostOne : Type 0
SpellsAtMostOne = (n m : Nodes) (text : List ℕ) → Spells n text → Spells m text → n ≡ m

-- what a text spells is spelled as that text
abbrev pub SpelledAsItself : Type 0
SpelledAsItself = (n : Nodes) (text : List ℕ) → Spells n text → spelling_of n ≡ text

-- nodes without empty or neighbouring texts and without children in EMPTY elements have a spelling, where all characters
-- of texts and values are allowed, and the names of the attributes are those of XHTML, no two in one tag
abbrev pub HasSpelling : Type 0
HasSpelling = (n : Nodes) → is_sound n ≡ true → is_joined n ≡ true → is_spellable n ≡ true → Spells n (spelling_of n)

-- the tree of a flat list of tokens is the one list of nodes whose tokens they are
abbrev pub HasOneTree : Type 0
HasOneTree = (n : Nodes) (tokens : List Token) → is_sound n ≡ true → IsTreeOf n tokens → n ≡ tree_of tokens

-- tokens in which each start tag has its end tag have a tree
abbrev pub HasTree : Type 0
HasTree = (tokens : List Token) → IsBalanced [] tokens → IsTreeOf (tree_of tokens) tokens

-- so many tables of one cell, each in the cell of the one before
abbrev pub nested_tables : ℕ → Nodes
nested_tables zero = no_nodes
nested_tables (suc n) = elem_first (bare Table) (elem_first (bare Tr) (elem_first (bare Td) (nested_tables n) no_nodes) no_nodes) no_nodes

-- the elements that are open in the innermost cell of so many tables
abbrev pub cells_within : ℕ → List Element
cells_within zero = []
cells_within (suc n) = Table ∷ Tr ∷ Td ∷ cells_within n

-- 32 tables in each other reach the level limit, and in the innermost cell no element fits
abbrev pub TablesReachTheLimit : Type 0
TablesReachTheLimit = (level_of (nested_tables 32) ≡ level_limit) × ((e : Element) → LevelFits (cells_within 32) e → ⊥)

-- joining texts leaves no neighbours, and leaves nodes without neighbours as they are
pub record JoinsTexts (n : Nodes) : Type 0 where
  pub joined : is_joined (joined_nodes n) ≡ true
  pub same : is_joined n ≡ true → joined_nodes n ≡ n
  pub counts : (c : ℕ) → count_in_text c (joined_nodes n) ≡ count_in_text c n
  pub spells : is_spellable n ≡ true → is_spellable (joined_nodes n) ≡ true
  pub forest : IsForest n → IsForest (joined_nodes n)

-- tokens that were joined in front of others are joined as if they had not been; joining leaves no neighbours and keeps
-- each character
pub record JoinsTokens (tokens : List Token) : Type 0 where
  pub front : (more : List Token) → joined (joined tokens ++ more) ≡ joined (tokens ++ more)
  pub neighbours : has_no_neighbours (joined tokens) ≡ true
  pub counts : (c : ℕ) → count_in_written c (joined tokens) ≡ count_in_written c tokens

-- nodes and the tokens that write them out have the same text
abbrev pub CountsAlike : Type 0
CountsAlike = (c : ℕ) (n : Nodes) → count_in_written c (tokens_of_nodes n) ≡ count_in_text c n

-- a walk makes a forest of a forest, where its rule keeps levels and soundness at each element
abbrev pub WalksKeepForests : Type 0
WalksKeepForests = (rule : PlainElem → Nodes → Nodes)
    → ((at : Place) (e : PlainElem) (kids : Nodes) → (inside at e.name).level ≤ level_limit → Holds (levels level_limit) (inside at e.name) kids → Holds (levels level_limit) at (rule e kids))
    → ((closed : Bool) (e : PlainElem) (kids : Nodes) → closed ≡ false → Holds soundness (is_empty_element e.name) kids → Holds soundness closed (rule e kids))
    → (n : Nodes) → IsForest n → IsForest (walk rule n)

-- what stands after a walk and what is lost in it is what stood before, where this is so at each element
abbrev pub WalksCount : Type 0
WalksCount = (c : ℕ) (rule : PlainElem → Nodes → Nodes) (lost : PlainElem → Nodes → ℕ)
    → ((e : PlainElem) (kids : Nodes) → count_in_text c (rule e kids) + lost e kids ≡ count_in_text c kids)
    → (n : Nodes) → count_in_text c (walk rule n) + lost_in_walk rule lost n ≡ count_in_text c n
