-- The machine of the program as a plain state.
use Rattle.std.specs.Prelude.{ℕ, zero, suc, ◌≡◌, ◌≤◌, Bool, false, List, [], ◌∷◌, ◌++◌, map, take, drop, reverse, filter, if◌then◌else◌}
use Rattle.pur_names.specs.declared.elements.Element.{Element}
use Rattle.pur_modules.specs.Contents.{is_empty_element}
use Rattle.pur_settings.specs.Rules.{Rules}
use Rattle.pur_tree.specs.Building.{written_of, opened_of}
use Rattle.pur_tree.specs.Nodes.{PlainElem, plain_elem}
use Rattle.pur_tree.specs.Places.{level_limit}
use Rattle.pur_tree.specs.Tokens.{Token, end_token, joined}
use Rattle.pur_wellform.specs.declared.machine.Machine.{Machine}
use Rattle.pur_wellform.specs.declared.machine.Pending.{Pending}
use Rattle.pur_wellform.specs.Search.{level_in, Entry, barred, direct, inside}
use Rattle.pur_wellform.specs.Closing.{State, Run, writing, changed_to, followed_by, is_formatting, newest, turn_of}
use Rattle.pur_wellform.specs.Invariants.{Kept}
use Rattle.pur_wellform.specs.Progress.{Progress, before_all}
use Rattle.pur_wellform.specs.Private.Opens.{tags_of, AreOpen}

-- an element that waits, with its attributes
abbrev pub pending_tag : Pending → PlainElem
pending_tag p = plain_elem p.name p.attrs

abbrev pub state_of : Machine → State
state_of machine = record {
  opened = tags_of machine.opened.items;
  pending = map pending_tag machine.pending.items;
  rest = machine.rest;
}

-- what is noted of the open elements is so, and the same ones are open in the builder
pub record IsMachine (rules : Rules) (machine : Machine) : Type 0 where
  pub known : AreOpen rules machine.opened.items
  pub same : opened_of machine.builder ≡ map (λ o. o.name) machine.opened.items

-- the machine did what a run says: it is in the state after it, and has written what it writes, texts joined
pub record Did (rules : Rules) (old new : Machine) (run : Run) : Type 0 where
  pub machine : IsMachine rules new
  pub state : state_of new ≡ run.state
  pub written : (more : List Token) → joined (written_of new.builder ++ more) ≡ joined (written_of old.builder ++ (run.written ++ more))

-- closes the innermost elements, so many, and leaves what waits as it is
abbrev pub leaving : ℕ → State → Run
leaving count state =
    writing (map (λ tag. end_token tag.name) (take count state.opened))
    (record { opened = drop count state.opened; pending = state.pending; rest = state.rest })

-- puts an element behind those that wait, if it is formatting
abbrev pub waiting : PlainElem → State → Run
waiting tag state = changed_to (record {
  opened = state.opened;
  pending = state.pending ++ filter (λ tag. is_formatting tag.name) (tag ∷ []);
  rest = state.rest;
})

-- closes the innermost elements, so many, and puts the formatting among them behind those that wait
abbrev pub carrying_out : ℕ → State → Run
carrying_out count state =
    writing (map (λ tag. end_token tag.name) (take count state.opened))
    (record {
      opened = drop count state.opened;
      pending = state.pending ++ reverse (filter (λ tag. is_formatting tag.name) (take count state.opened));
      rest = state.rest;
    })

-- what waits after elements were closed: nothing where a cell or a caption was among them, and the newest otherwise
abbrev pub settled : Bool → State → Run
settled shut state = changed_to (record {
  opened = state.opened;
  pending = if shut then [] else newest state.pending;
  rest = state.rest;
})

-- the turn of the first of those that wait; where it goes on waiting it comes last
abbrev pub first_turn : Rules → ℕ → List PlainElem → State → Run
first_turn rules limit [] state = changed_to state
first_turn rules limit (tag ∷ tags) state =
    turn_of rules limit tag (record { opened = state.opened; pending = tags; rest = state.rest })

-- so many turns
abbrev pub so_many_turns : Rules → ℕ → ℕ → State → Run
so_many_turns rules limit zero state = changed_to state
so_many_turns rules limit (suc count) state =
    followed_by (first_turn rules limit state.pending state) (so_many_turns rules limit count)

-- a wrapper, where there is one, can be opened
abbrev pub CanWrap : Rules → List Element → Entry → Type 0
CanWrap rules opened barred = Unit {0}
CanWrap rules opened direct = Unit {0}
CanWrap rules opened (inside wrapper) = (is_empty_element wrapper ≡ false) × (level_in (wrapper ∷ opened) ≤ level_limit)

-- what the machine has done
abbrev pub progress_of : Rules → Machine → Progress
progress_of rules machine = record { rules = rules; state = state_of machine; written = written_of machine.builder }

-- what holds of the machine between two tokens
pub record IsClosing (rules : Rules) (machine : Machine) : Type 0 where
  pub known : IsMachine rules machine
  pub kept : Kept rules (state_of machine)

-- the machine before all tokens
pub record IsFirst (rules : Rules) (machine : Machine) : Type 0 where
  pub closing : IsClosing rules machine
  pub progress : progress_of rules machine ≡ before_all rules
