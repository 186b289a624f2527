-- Closing: tags and texts become a flat list in which each element ends and stands where its parent allows it, and
-- formatting that is cut off by a block goes on in it (the second strategy of HTML Purifier).
use Rattle.std.specs.Prelude.{ℕ, ◌+◌, ◌-◌, Bool, true, false, List, [], ◌∷◌, ◌++◌, map, filter, reverse, length, take, drop, Option, Some, None, if◌then◌else◌, not, ◌&&◌, ◌||◌, nat_le, suc}
use Rattle.std.specs.List.{list_any}
use Rattle.pur_text.specs.Characters.{is_blank}
use Rattle.pur_names.specs.Elements.{element_named, same_element}
use Rattle.pur_names.specs.declared.elements.Element.{Element}
use Rattle.pur_names.specs.declared.elements.Element.TheVariants.{B, Big, Code, Em, Font, I, S, Small, Strike, Strong, Tt, U}
use Rattle.pur_modules.specs.declared.kinds.Child.TheVariants.{Text, Elem}
use Rattle.pur_modules.specs.Contents.{is_empty_element, is_excluded_in}
use Rattle.pur_modules.specs.Groups.{is_among}
use Rattle.pur_modules.specs.Wrappers.{is_running}
use Rattle.pur_attrlist.specs.Attributes.{weight_of}
use Rattle.pur_tokens.specs.Tokens as read
use Rattle.pur_settings.specs.Rules.{Rules}
use Rattle.pur_tree.specs.Nodes.{PlainElem, plain_elem, bare}
use Rattle.pur_tree.specs.Places.{level_limit}
use Rattle.pur_tree.specs.Tokens.{Token, text_token, start_token, end_token, opening_of, closing_of, joined}
use Rattle.pur_wellform.specs.Search.{allows, level_in, Entry, barred, direct, inside, entry, wrapped, is_shut, Place, no_place, at_place, place_of, open_place}

-- the open elements, innermost first; the formatting that waits to be opened again, oldest first; and the units that may
-- still be paid for that
pub record State : Type 0 where
  pub opened : List PlainElem
  pub pending : List PlainElem
  pub rest : ℕ

-- what comes of a step: the state after it, what it writes, the text that it loses, and the units that it pays
pub record Run : Type 0 where
  pub state : State
  pub written : List Token
  pub lost : List ℕ
  pub paid : ℕ

-- the names of elements
abbrev pub names : List PlainElem → List Element
names tags = map (λ tag. tag.name) tags

-- a step that writes nothing
abbrev pub changed_to : State → Run
changed_to state = record { state = state; written = []; lost = []; paid = 0 }

-- a step that writes
abbrev pub writing : List Token → State → Run
writing tokens state = record { state = state; written = tokens; lost = []; paid = 0 }

-- a step that loses a text
abbrev pub losing : List ℕ → State → Run
losing text state = record { state = state; written = []; lost = text; paid = 0 }

-- what comes of two steps, one behind the other
abbrev pub both_runs : Run → Run → Run
both_runs first second = record {
  state = second.state;
  written = first.written ++ second.written;
  lost = first.lost ++ second.lost;
  paid = first.paid + second.paid;
}

-- a step, and then another from the state that it leaves
abbrev pub followed_by : Run → (State → Run) → Run
followed_by first next = both_runs first (next first.state)

-- the elements whose look goes on where a step closes them
abbrev pub formatting : List Element
formatting = B ∷ Big ∷ Code ∷ Em ∷ Font ∷ I ∷ S ∷ Small ∷ Strike ∷ Strong ∷ Tt ∷ U ∷ []

abbrev pub is_formatting : Element → Bool
is_formatting element = is_among formatting element

-- what is kept of an element while it is open: its name, and of formatting, which may be opened again, its attributes too
abbrev pub kept : PlainElem → PlainElem
kept tag = plain_elem tag.name (if is_formatting tag.name then tag.attrs else [])

-- no more wait than so many
abbrev pub pending_limit : ℕ
pending_limit = 128

-- the newest of those that wait
abbrev pub newest : List PlainElem → List PlainElem
newest pending = drop (length pending - pending_limit) pending

-- what waits after elements were closed: the formatting among those that carry on comes last, outermost first; where a cell or
-- a caption is among the closed ones nothing waits any more
abbrev pub pending_after : List PlainElem → List PlainElem → List PlainElem → List PlainElem
pending_after closed carried pending =
    if list_any (λ tag. is_shut tag.name) closed then []
    else newest (pending ++ reverse (filter (λ tag. is_formatting tag.name) carried))

-- closes so many elements, the innermost first, of which so many carry on
abbrev pub close_inner : ℕ → ℕ → State → Run
close_inner count carried state =
    writing (map (λ tag. end_token tag.name) (take count state.opened))
    (record {
      opened = drop count state.opened;
      pending = pending_after (take count state.opened) (take carried state.opened) state.pending;
      rest = state.rest;
    })

-- opens an element
abbrev pub enter : PlainElem → State → Run
enter tag state =
    writing (start_token tag ∷ []) (record { opened = kept tag ∷ state.opened; pending = state.pending; rest = state.rest })

-- opens an element and closes it at once; it isn't carried on
abbrev pub enter_and_close : PlainElem → State → Run
enter_and_close tag state =
    writing (opening_of tag ∷ closing_of tag.name)
    (record { opened = state.opened; pending = pending_after (tag ∷ []) [] state.pending; rest = state.rest })

-- the units that it costs to open an element again: 16, and the bytes of the names and values of its attributes
abbrev pub cost : PlainElem → ℕ
cost tag = 16 + weight_of tag.attrs

-- whether an element that waits fits at its turn: the content allows it, no open element excludes it, and its level is within
-- the limit
abbrev pub fits_again : Rules → ℕ → List Element → Element → Bool
fits_again rules limit opened element =
    allows rules opened (Elem element) && (not (is_excluded_in opened element) && nat_le (level_in (element ∷ opened)) limit)

-- opens an element again if the rest of the allowance pays for it, and forgets it otherwise
abbrev pub enter_again : PlainElem → State → Run
enter_again tag state =
    if nat_le (cost tag) state.rest
    then record {
      state = record { opened = kept tag ∷ state.opened; pending = state.pending; rest = state.rest - cost tag };
      written = start_token tag ∷ [];
      lost = [];
      paid = cost tag;
    }
    else changed_to state

-- an element that waits, at its turn; the pending list of the state has those that go on waiting
abbrev pub turn_of : Rules → ℕ → PlainElem → State → Run
turn_of rules limit tag state =
    if fits_again rules limit (names state.opened) tag.name then enter_again tag state
    else changed_to (record { opened = state.opened; pending = state.pending ++ tag ∷ []; rest = state.rest })

abbrev pub turns_of : Rules → ℕ → List PlainElem → State → Run
turns_of rules limit [] state = changed_to state
turns_of rules limit (tag ∷ tags) state = followed_by (turn_of rules limit tag state) (turns_of rules limit tags)

-- opens what waits again, in its order, within a limit of levels
abbrev pub reopen : Rules → ℕ → State → Run
reopen rules limit state =
    turns_of rules limit state.pending (record { opened = state.opened; pending = []; rest = state.rest })

-- opens the wrapper, where there is one
abbrev pub enter_wrapper : Entry → State → Run
enter_wrapper barred state = changed_to state
enter_wrapper direct state = changed_to state
enter_wrapper (inside wrapper) state = enter (bare wrapper) state

-- before an inline element that is no mark of editing, formatting is opened again, with one level left for the element itself
abbrev pub reopen_before : Rules → Element → State → Run
reopen_before rules element state =
    if is_running rules.doctype (Elem element) then reopen rules 127 state else changed_to state

-- opens the element of a tag; an EMPTY element, and the element of an empty tag, is closed at once
abbrev pub enter_tag : PlainElem → Bool → State → Run
enter_tag tag at_once state =
    if at_once || is_empty_element tag.name then enter_and_close tag state else enter tag state

-- a tag in its place: the wrapper, the formatting, the element itself
abbrev pub put_tag : Rules → PlainElem → Bool → Entry → State → Run
put_tag rules tag at_once way state =
    followed_by (followed_by (enter_wrapper way state) (reopen_before rules tag.name)) (enter_tag tag at_once)

-- a tag with its place, if it has one: it is dropped where its level there, with the wrapper, passes the limit; otherwise all
-- elements that are open inside of the place are closed first
abbrev pub put_at : Rules → PlainElem → Bool → Place → State → Run
put_at rules tag at_once no_place state = changed_to state
put_at rules tag at_once (at_place inner way) state =
    if nat_le (level_in (tag.name ∷ wrapped way (drop inner (names state.opened)))) level_limit
    then followed_by (close_inner inner inner state) (put_tag rules tag at_once way)
    else changed_to state

-- a start tag, or an empty tag, whose element is closed at once: it is dropped where an open element excludes it
abbrev pub start_step : Rules → PlainElem → Bool → State → Run
start_step rules tag at_once state =
    if is_excluded_in (names state.opened) tag.name then changed_to state
    else put_at rules tag at_once (place_of rules tag.name (names state.opened)) state

-- a text in the innermost element, after formatting is opened again
abbrev pub put_text : Rules → List ℕ → State → Run
put_text rules text state = followed_by (reopen rules level_limit state) (writing (text_token text ∷ []))

-- a text that isn't white space alone: it goes into the innermost element, or into a wrapper there, or is lost
abbrev pub put_text_by : Rules → List ℕ → Entry → State → Run
put_text_by rules text barred state = losing text state
put_text_by rules text direct state = put_text rules text state
put_text_by rules text (inside wrapper) state =
    if nat_le (level_in (wrapper ∷ names state.opened)) level_limit
    then followed_by (enter_wrapper (inside wrapper) state) (put_text rules text)
    else losing text state

-- a text: white space alone goes into the innermost element as it is
abbrev pub text_step : Rules → List ℕ → State → Run
text_step rules text state =
    if is_blank text then writing (text_token text ∷ []) state
    else put_text_by rules text (entry rules (names state.opened) Text) state

-- those that wait, without the newest of this name
abbrev pub without_newest : Element → List PlainElem → List PlainElem
without_newest element [] = []
without_newest element (tag ∷ tags) =
    if same_element element tag.name && not (list_any (λ later. same_element element later.name) tags) then tags
    else tag ∷ without_newest element tags

-- an end tag with the open element that it means, if a search finds one: that is closed with all inside of it, and carries
-- nothing on itself; otherwise the newest of this name that waits is forgotten
abbrev pub end_at : Element → Option ℕ → State → Run
end_at element None state =
    changed_to (record { opened = state.opened; pending = without_newest element state.pending; rest = state.rest })
end_at element (Some inner) state = close_inner (suc inner) inner state

abbrev pub end_step : Element → State → Run
end_step element state = end_at element (open_place element (names state.opened)) state

-- what the element of a tag does, where there is one of that name
abbrev pub for_element : Option Element → (Element → State → Run) → State → Run
for_element None does state = changed_to state
for_element (Some element) does state = does element state

-- a token
abbrev pub step : Rules → read.PlainToken → State → Run
step rules (read.text_token text) state = text_step rules text state
step rules (read.start_token name attrs) state =
    for_element (element_named name) (λ element. start_step rules (plain_elem element attrs) false) state
step rules (read.empty_token name attrs) state =
    for_element (element_named name) (λ element. start_step rules (plain_elem element attrs) true) state
step rules (read.end_token name) state = for_element (element_named name) end_step state
step rules (read.hidden_token name body) state = changed_to state
step rules (read.comment_token text) state = changed_to state

-- tokens, one after the other
abbrev pub steps : Rules → List read.PlainToken → State → Run
steps rules [] state = changed_to state
steps rules (token ∷ tokens) state = followed_by (step rules token state) (steps rules tokens)

-- at the end of the tokens all is closed
abbrev pub end_all : State → Run
end_all state = close_inner (length state.opened) 0 state

-- the units that may be paid in all for what is opened again
abbrev pub allowance : ℕ
allowance = 1048576

abbrev pub first_state : State
first_state = record { opened = []; pending = []; rest = allowance }

abbrev pub run_of : Rules → List read.PlainToken → Run
run_of rules tokens = followed_by (steps rules tokens first_state) end_all

-- the flat list of the tokens, in which each element ends and stands where it may, and texts that become neighbours are one
abbrev pub closed : Rules → List read.PlainToken → List Token
closed rules tokens = joined (run_of rules tokens).written

-- the text that finds no place
abbrev pub lost_in_closing : Rules → List read.PlainToken → List ℕ
lost_in_closing rules tokens = (run_of rules tokens).lost

-- the units that are paid for what is opened again
abbrev pub paid : Rules → List read.PlainToken → ℕ
paid rules tokens = (run_of rules tokens).paid
