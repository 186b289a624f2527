-- What each step of closing keeps.
use Rattle.std.specs.Prelude.{ℕ, ◌+◌, ◌≤◌, ◌≡◌, Bool, true, false, List, [], ◌∷◌, length, ◌&&◌}
use Rattle.std.specs.List.{list_all}
use Rattle.pur_names.specs.declared.elements.Element.{Element}
use Rattle.pur_modules.specs.Contents.{is_empty_element}
use Rattle.pur_settings.specs.Rules.{Rules, permits_element}
use Rattle.pur_tree.specs.Nodes.{PlainElem}
use Rattle.pur_tree.specs.Tokens.{Token, text_token, start_token, end_token, empty_token}
use Rattle.pur_wellform.specs.Closing.{State, Run, names, is_formatting, pending_limit}
use Rattle.pur_wellform.specs.Standing.{MayOpen, MayHold}

-- tokens that are written where elements are open, and after which others are open: each of them stands where it may
pub data Writes (rules : Rules) : List Element → List Token → List Element → Type 0 where
  writes_nothing : {opened : List Element} → Writes rules opened [] opened
  writes_text : {opened after : List Element} {text : List ℕ} {more : List Token}
      → MayHold rules opened text → Writes rules opened more after → Writes rules opened (text_token text ∷ more) after
  writes_empty : {opened after : List Element} {element : PlainElem} {more : List Token}
      → is_empty_element element.name ≡ true → MayOpen rules opened element.name → Writes rules opened more after
      → Writes rules opened (empty_token element ∷ more) after
  writes_start : {opened after : List Element} {element : PlainElem} {more : List Token}
      → is_empty_element element.name ≡ false → MayOpen rules opened element.name → Writes rules (element.name ∷ opened) more after
      → Writes rules opened (start_token element ∷ more) after
  writes_end : {opened after : List Element} {element : Element} {more : List Token}
      → Writes rules opened more after → Writes rules (element ∷ opened) (end_token element ∷ more) after

-- an open element is permitted
abbrev pub is_permitted : Rules → PlainElem → Bool
is_permitted rules tag = permits_element rules tag.name

-- one that waits is permitted formatting
abbrev pub is_pendable : Rules → PlainElem → Bool
is_pendable rules tag = permits_element rules tag.name && is_formatting tag.name

-- what each state keeps
pub record Kept (rules : Rules) (state : State) : Type 0 where
  pub opened : list_all (is_permitted rules) state.opened ≡ true
  pub pending : list_all (is_pendable rules) state.pending ≡ true
  pub few : length state.pending ≤ pending_limit

-- what a run keeps from the state before it
pub record GoodRun (rules : Rules) (before : State) (run : Run) : Type 0 where
  pub writes : Writes rules (names before.opened) run.written (names run.state.opened)
  pub kept : Kept rules run.state
  pub paid : run.paid + run.state.rest ≡ before.rest
