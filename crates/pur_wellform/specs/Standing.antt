-- Where nodes may stand in what closing gives.
use Rattle.std.specs.Prelude.{ℕ, ◌≤◌, ◌≡◌, Bool, true, false, List, ◌∷◌, ◌||◌, length, nat_lt}
use Rattle.pur_attrlist.specs.Texts.{text_of}
use Rattle.pur_tokens.specs.declared.shown.Shown.{Shown}
use Rattle.pur_tokens.specs.declared.shown.Shown.TheVariants as shown
use Rattle.pur_names.specs.declared.elements.Element.{Element}
use Rattle.pur_modules.specs.declared.kinds.Child.TheVariants.{Text, Elem}
use Rattle.pur_modules.specs.Contents.{is_excluded_in}
use Rattle.pur_text.specs.Characters.{is_blank}
use Rattle.pur_tokens.specs.Tokens.{PlainToken, shows_only}
use Rattle.pur_settings.specs.Rules.{Rules, permits_element, permits_name}
use Rattle.pur_tree.specs.Nodes.{PlainElem, Nodes, no_nodes, text_first, elem_first}
use Rattle.pur_tree.specs.Places.{level_limit}
use Rattle.pur_wellform.specs.Search.{allows, level_in}

-- whether a token may be closed: each tag names a permitted element, no text is empty, and hidden content and comments are gone
abbrev pub can_be_closed : Rules → PlainToken → Bool
can_be_closed rules token = shows_only (permits_name rules) token

-- the same of a piece: its element is permitted, or its text isn't empty
abbrev pub may_be_closed : Rules → Shown → Bool
may_be_closed rules (shown.Text text) = nat_lt 0 (length (text_of text))
may_be_closed rules (shown.Start tag) = permits_element rules tag.element
may_be_closed rules (shown.End element) = permits_element rules element
may_be_closed rules (shown.Empty tag) = permits_element rules tag.element

-- an element may stand directly inside of open ones, which are given innermost first: it is permitted, a letter of the content
-- there, excluded by none of them, and its level is within the limit
pub record MayOpen (rules : Rules) (opened : List Element) (element : Element) : Type 0 where
  pub permitted : permits_element rules element ≡ true
  pub letter : allows rules opened (Elem element) ≡ true
  pub free : is_excluded_in opened element ≡ false
  pub low : level_in (element ∷ opened) ≤ level_limit

-- a text may: it is white space, or the content there allows text
pub record MayHold (rules : Rules) (opened : List Element) (text : List ℕ) : Type 0 where
  pub holds : (is_blank text || allows rules opened Text) ≡ true

-- nodes that stand inside of open elements, each where it may
pub data Stands (rules : Rules) : List Element → Nodes → Type 0 where
  nothing_stands : {opened : List Element} → Stands rules opened no_nodes
  text_stands : {opened : List Element} {text : List ℕ} {rest : Nodes}
      → MayHold rules opened text → Stands rules opened rest → Stands rules opened (text_first text rest)
  element_stands : {opened : List Element} {element : PlainElem} {kids rest : Nodes}
      → MayOpen rules opened element.name → Stands rules (element.name ∷ opened) kids → Stands rules opened rest
      → Stands rules opened (elem_first element kids rest)
