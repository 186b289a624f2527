-- Closing writes nothing but what it reads, wrappers, and formatting that is opened again: what texts and tags pass where they are
-- read they pass in the tree of what is written.
use Rattle.std.proofs.Common.{◌≡◌, ℕ, suc, ◌-◌, List, [], ◌∷◌, ◌++◌, length, map, filter, reverse, take, drop, refl, sym, subst, Bool, true, false, ◌||◌, not, cond, nat_le, Option, Some, None, if◌then◌else◌}
use Rattle.std.specs.List.{list_all, list_any}
use Rattle.std.proofs.lemmas.Bool.{and_parts, and_from}
use Rattle.pur_laws.proofs.Truth.{either}
use Rattle.pur_laws.proofs.Lists.{all-append, all-drop, all-parts, all-reverse, all-take}
use Rattle.pur_text.specs.Characters.{is_blank}
use Rattle.pur_names.specs.Elements.{element_named}
use Rattle.pur_names.specs.declared.elements.Element.{Element}
use Rattle.pur_modules.specs.Contents.{is_empty_element, is_excluded_in}
use Rattle.pur_modules.specs.Groups.{is_among}
use Rattle.pur_modules.specs.Wrappers.{is_running}
use Rattle.pur_modules.specs.declared.kinds.Child.{Child}
use Rattle.pur_modules.specs.declared.kinds.Child.TheVariants.{Text, Elem}
use Rattle.pur_attrlist.specs.Attributes.{Attribute}
use Rattle.pur_tokens.specs.Tokens as read
use Rattle.pur_settings.specs.Rules.{Rules}
use Rattle.pur_tree.specs.Nodes.{PlainElem, plain_elem, bare, Nodes, no_nodes, text_first, elem_first}
use Rattle.pur_tree.specs.Tokens.{Token, text_token, start_token, end_token, empty_token, join_token, joined, tokens_of_nodes}
use Rattle.pur_wellform.specs.Search.{level_in, Entry, barred, direct, inside, entry, wrapped, is_shut, Place, no_place, at_place, place_of, open_place}
use Rattle.pur_wellform.specs.Closing.{State, Run, names, kept, is_formatting, changed_to, writing, losing, followed_by, newest, pending_after, close_inner, enter, enter_and_close, cost, fits_again, enter_again, turn_of, turns_of, reopen, enter_wrapper, reopen_before, enter_tag, put_tag, put_at, start_step, put_text, put_text_by, text_step, without_newest, end_at, end_step, for_element, step, steps, end_all, first_state, run_of, closed}
use Rattle.pur_wellform.proofs.PlaceFacts.{IsEntry, IsWay, IsPlace, entry_is, place_is}
use Rattle.pur_wellform.proofs.TableFacts.{wrappers}

-- a token that is written, whose text or tag passes
abbrev pub passes : (List ℕ → Bool) → (PlainElem → Bool) → Token → Bool
passes says shows (text_token text) = says text
passes says shows (start_token tag) = shows tag
passes says shows (empty_token tag) = shows tag
passes says shows (end_token name) = true

-- an open element that passes if it may be opened again: formatting alone keeps its attributes
abbrev pub goes_on : (PlainElem → Bool) → PlainElem → Bool
goes_on shows tag = not (is_formatting tag.name) || shows tag

-- what is open goes on, and what waits passes
pub record Fine (shows : PlainElem → Bool) (state : State) : Type 0 where
  pub opened : list_all (goes_on shows) state.opened ≡ true
  pub pending : list_all shows state.pending ≡ true

-- a run leaves such a state, and what it writes passes
pub record Writes (says : List ℕ → Bool) (shows : PlainElem → Bool) (run : Run) : Type 0 where
  pub fine : Fine shows run.state
  pub written : list_all (passes says shows) run.written ≡ true

-- a wrapper that is implied, if the way has one
abbrev IsImplied : Entry → Type 0
IsImplied barred = Unit {0}
IsImplied direct = Unit {0}
IsImplied (inside wrapper) = is_among wrappers wrapper ≡ true

entry-implied : (rules : Rules) (opened : List Element) (child : Child) (way : Entry) → IsEntry rules opened child way → IsImplied way
entry-implied rules opened child barred is = tt
entry-implied rules opened child direct is = tt
entry-implied rules opened child (inside wrapper) is = is.wraps.kind

way-implied : (rules : Rules) (opened : List Element) (child : Child) (way : Entry) → IsWay rules opened child way → IsImplied way
way-implied rules opened child barred is = tt
way-implied rules opened child direct is = tt
way-implied rules opened child (inside wrapper) is = is.wraps.kind

-- what texts and tags pass, a text of two that pass too, and every wrapper
pub record Test (says : List ℕ → Bool) (shows : PlainElem → Bool) : Type 0 where
  pub joins : (s t : List ℕ) → says s ≡ true → says t ≡ true → says (s ++ t) ≡ true
  pub wraps : (wrapper : Element) → is_among wrappers wrapper ≡ true → shows (bare wrapper) ≡ true

-- what passes where it is read: the texts, and the tags of elements
pub record Reads (says : List ℕ → Bool) (shows : PlainElem → Bool) (reads : read.PlainToken → Bool) : Type 0 where
  pub text : (text : List ℕ) → reads (read.text_token text) ≡ true → says text ≡ true
  pub start : (name : List ℕ) (attrs : List Attribute) (element : Element) → element_named name ≡ Some element
      → reads (read.start_token name attrs) ≡ true → shows (plain_elem element attrs) ≡ true
  pub empty : (name : List ℕ) (attrs : List Attribute) (element : Element) → element_named name ≡ Some element
      → reads (read.empty_token name attrs) ≡ true → shows (plain_elem element attrs) ≡ true

-- what holds of nodes whose texts and elements pass
pub record Tells (says : List ℕ → Bool) (shows : PlainElem → Bool) (P : Nodes → Type 0) : Type 0 where
  pub none : P no_nodes
  pub text : (text : List ℕ) (rest : Nodes) → says text ≡ true → P rest → P (text_first text rest)
  pub elem : (e : PlainElem) (kids rest : Nodes) → shows e ≡ true → P kids → P rest → P (elem_first e kids rest)

module _ (says : List ℕ → Bool) (shows : PlainElem → Bool) (test : Test says shows) where
  follow : (first : Run) (next : State → Run) → Writes says shows first → (Fine shows first.state → Writes says shows (next first.state))
      → Writes says shows (followed_by first next)
  follow first next one two =
      let more = two one.fine in
      record {
        fine = more.fine;
        written = all-append (passes says shows) first.written (next first.state).written one.written more.written;
      }

  still : (state : State) → Fine shows state → Writes says shows (changed_to state)
  still state fine = record { fine = fine; written = refl }

  lost : (text : List ℕ) (state : State) → Fine shows state → Writes says shows (losing text state)
  lost text state fine = record { fine = fine; written = refl }

  -- ---- elements that are closed and opened

  kept-on : (tag : PlainElem) → shows tag ≡ true → goes_on shows (kept tag) ≡ true
  kept-on tag passed = go (is_formatting tag.name)
    where
      go : (b : Bool) → (not b || shows (plain_elem tag.name (if b then tag.attrs else []))) ≡ true
      go true = passed
      go false = refl

  one_more : (tag : PlainElem) (tags : List PlainElem) → shows tag ≡ true → list_all shows tags ≡ true → list_all shows (tag ∷ tags) ≡ true
  one_more tag tags first all = and_from (shows tag) (list_all shows tags) first all

  one_open : (tag : PlainElem) (tags : List PlainElem) → shows tag ≡ true → list_all (goes_on shows) tags ≡ true → list_all (goes_on shows) (kept tag ∷ tags) ≡ true
  one_open tag tags first all = and_from (goes_on shows (kept tag)) (list_all (goes_on shows) tags) (kept-on tag first) all

  one_token : (token : Token) → passes says shows token ≡ true → list_all (passes says shows) (token ∷ []) ≡ true
  one_token token passed = and_from (passes says shows token) true passed refl

  -- of those that go on, formatting passes
  formatting-passes : (tags : List PlainElem) → list_all (goes_on shows) tags ≡ true → list_all shows (filter (λ (tag : PlainElem). is_formatting tag.name) tags) ≡ true
  formatting-passes [] all = refl
  formatting-passes (tag ∷ tags) all =
      let parts = and_parts (goes_on shows tag) (list_all (goes_on shows) tags) all in
      go (is_formatting tag.name) parts.0 (formatting-passes tags parts.1)
    where
      more : List PlainElem
      more = filter (λ (tag : PlainElem). is_formatting tag.name) tags

      go : (b : Bool) → (not b || shows tag) ≡ true → list_all shows more ≡ true → list_all shows (cond b (tag ∷ more) more) ≡ true
      go true first rest = one_more tag more first rest
      go false first rest = rest

  pending-fine : (closed carried pending : List PlainElem) → list_all (goes_on shows) carried ≡ true → list_all shows pending ≡ true
      → list_all shows (pending_after closed carried pending) ≡ true
  pending-fine closed carried pending c p =
      let formatting = filter (λ (tag : PlainElem). is_formatting tag.name) carried in
      either (λ (tags : List PlainElem). list_all shows tags ≡ true) (list_any (λ (tag : PlainElem). is_shut tag.name) closed)
      [] (newest (pending ++ reverse formatting)) refl
      (all-drop shows (length (pending ++ reverse formatting) - 128) (pending ++ reverse formatting)
      (all-append shows pending (reverse formatting) p (all-reverse shows formatting (formatting-passes carried c))))

  ends-pass : (tags : List PlainElem) → list_all (passes says shows) (map (λ (tag : PlainElem). end_token tag.name) tags) ≡ true
  ends-pass [] = refl
  ends-pass (tag ∷ tags) = ends-pass tags

  closes : (count carried : ℕ) (state : State) → Fine shows state → Writes says shows (close_inner count carried state)
  closes count carried state fine = record {
    fine = record {
      opened = all-drop (goes_on shows) count state.opened fine.opened;
      pending = pending-fine (take count state.opened) (take carried state.opened) state.pending
          (all-take (goes_on shows) carried state.opened fine.opened) fine.pending;
    };
    written = ends-pass (take count state.opened);
  }

  enters : (tag : PlainElem) (state : State) → shows tag ≡ true → Fine shows state → Writes says shows (enter tag state)
  enters tag state t fine = record {
    fine = record { opened = one_open tag state.opened t fine.opened; pending = fine.pending };
    written = one_token (start_token tag) t;
  }

  at_once : (tag : PlainElem) (state : State) → shows tag ≡ true → Fine shows state → Writes says shows (enter_and_close tag state)
  at_once tag state t fine = record {
    fine = record { opened = fine.opened; pending = pending-fine (tag ∷ []) [] state.pending refl fine.pending };
    written = go (is_empty_element tag.name);
  }
    where
      go : (b : Bool) → list_all (passes says shows) (cond b (empty_token tag) (start_token tag) ∷ cond b [] (end_token tag.name ∷ [])) ≡ true
      go true = and_from (shows tag) true t refl
      go false = and_from (shows tag) true t refl

  -- ---- formatting that is opened again

  again : (tag : PlainElem) (state : State) → shows tag ≡ true → Fine shows state → Writes says shows (enter_again tag state)
  again tag state t fine =
      either (Writes says shows) (nat_le (cost tag) state.rest) _ (changed_to state)
      (record {
        fine = record { opened = one_open tag state.opened t fine.opened; pending = fine.pending };
        written = one_token (start_token tag) t;
      })
      (still state fine)

  turn : (rules : Rules) (limit : ℕ) (tag : PlainElem) (state : State) → shows tag ≡ true → Fine shows state → Writes says shows (turn_of rules limit tag state)
  turn rules limit tag state t fine =
      either (Writes says shows) (fits_again rules limit (names state.opened) tag.name) (enter_again tag state)
      (changed_to (record { opened = state.opened; pending = state.pending ++ tag ∷ []; rest = state.rest }))
      (again tag state t fine)
      (record {
        fine = record { opened = fine.opened; pending = all-append shows state.pending (tag ∷ []) fine.pending (one_more tag [] t refl) };
        written = refl;
      })

  turns : (rules : Rules) (limit : ℕ) (tags : List PlainElem) (state : State) → list_all shows tags ≡ true → Fine shows state → Writes says shows (turns_of rules limit tags state)
  turns rules limit [] state all fine = still state fine
  turns rules limit (tag ∷ tags) state all fine =
      let parts = and_parts (shows tag) (list_all shows tags) all in
      follow (turn_of rules limit tag state) (turns_of rules limit tags) (turn rules limit tag state parts.0 fine)
      (turns rules limit tags (turn_of rules limit tag state).state parts.1)

  reopens : (rules : Rules) (limit : ℕ) (state : State) → Fine shows state → Writes says shows (reopen rules limit state)
  reopens rules limit state fine =
      turns rules limit state.pending (record { opened = state.opened; pending = []; rest = state.rest }) fine.pending
      (record { opened = fine.opened; pending = refl })

  -- ---- tags

  wrapper-enters : (way : Entry) (state : State) → IsImplied way → Fine shows state → Writes says shows (enter_wrapper way state)
  wrapper-enters barred state is fine = still state fine
  wrapper-enters direct state is fine = still state fine
  wrapper-enters (inside wrapper) state is fine = enters (bare wrapper) state (test.wraps wrapper is) fine

  before : (rules : Rules) (element : Element) (state : State) → Fine shows state → Writes says shows (reopen_before rules element state)
  before rules element state fine =
      either (Writes says shows) (is_running rules.doctype (Elem element)) (reopen rules 127 state) (changed_to state) (reopens rules 127 state fine) (still state fine)

  tag-enters : (tag : PlainElem) (b : Bool) (state : State) → shows tag ≡ true → Fine shows state → Writes says shows (enter_tag tag b state)
  tag-enters tag b state t fine =
      either (Writes says shows) (b || is_empty_element tag.name) (enter_and_close tag state) (enter tag state) (at_once tag state t fine) (enters tag state t fine)

  puts : (rules : Rules) (tag : PlainElem) (b : Bool) (way : Entry) (state : State) → IsImplied way → shows tag ≡ true → Fine shows state
      → Writes says shows (put_tag rules tag b way state)
  puts rules tag b way state is t fine =
      follow (followed_by (enter_wrapper way state) (reopen_before rules tag.name)) (enter_tag tag b)
      (follow (enter_wrapper way state) (reopen_before rules tag.name) (wrapper-enters way state is fine) (before rules tag.name (enter_wrapper way state).state))
      (tag-enters tag b (followed_by (enter_wrapper way state) (reopen_before rules tag.name)).state t)

  placed : (rules : Rules) (tag : PlainElem) (b : Bool) (place : Place) (state : State) → IsPlace rules tag.name (names state.opened) place
      → shows tag ≡ true → Fine shows state → Writes says shows (put_at rules tag b place state)
  placed rules tag b no_place state is t fine = still state fine
  placed rules tag b (at_place inner way) state is t fine =
      either (Writes says shows) (nat_le (level_in (tag.name ∷ wrapped way (drop inner (names state.opened)))) 128)
      (followed_by (close_inner inner inner state) (put_tag rules tag b way)) (changed_to state)
      (follow (close_inner inner inner state) (put_tag rules tag b way) (closes inner inner state fine)
      (puts rules tag b way (close_inner inner inner state).state (way-implied rules (drop inner (names state.opened)) (Elem tag.name) way is) t))
      (still state fine)

  starts : (rules : Rules) (tag : PlainElem) (b : Bool) (state : State) → shows tag ≡ true → Fine shows state → Writes says shows (start_step rules tag b state)
  starts rules tag b state t fine =
      either (Writes says shows) (is_excluded_in (names state.opened) tag.name) (changed_to state) (put_at rules tag b (place_of rules tag.name (names state.opened)) state)
      (still state fine)
      (placed rules tag b (place_of rules tag.name (names state.opened)) state (place_is rules tag.name (names state.opened)) t fine)

  -- ---- texts

  text-put : (rules : Rules) (text : List ℕ) (state : State) → says text ≡ true → Fine shows state → Writes says shows (put_text rules text state)
  text-put rules text state t fine =
      follow (reopen rules 128 state) (writing (text_token text ∷ [])) (reopens rules 128 state fine)
      (λ after. record { fine = after; written = one_token (text_token text) t })

  text-by : (rules : Rules) (text : List ℕ) (way : Entry) (state : State) → IsImplied way → says text ≡ true → Fine shows state
      → Writes says shows (put_text_by rules text way state)
  text-by rules text barred state is t fine = lost text state fine
  text-by rules text direct state is t fine = text-put rules text state t fine
  text-by rules text (inside wrapper) state is t fine =
      either (Writes says shows) (nat_le (level_in (wrapper ∷ names state.opened)) 128) (followed_by (enter_wrapper (inside wrapper) state) (put_text rules text)) (losing text state)
      (follow (enter_wrapper (inside wrapper) state) (put_text rules text) (wrapper-enters (inside wrapper) state is fine)
      (text-put rules text (enter_wrapper (inside wrapper) state).state t))
      (lost text state fine)

  texts : (rules : Rules) (text : List ℕ) (state : State) → says text ≡ true → Fine shows state → Writes says shows (text_step rules text state)
  texts rules text state t fine =
      either (Writes says shows) (is_blank text) (writing (text_token text ∷ []) state) (put_text_by rules text (entry rules (names state.opened) Text) state)
      (record { fine = fine; written = one_token (text_token text) t })
      (text-by rules text (entry rules (names state.opened) Text) state
      (entry-implied rules (names state.opened) Text (entry rules (names state.opened) Text) (entry_is rules (names state.opened) Text)) t fine)

  -- ---- end tags

  without-fine : (element : Element) (tags : List PlainElem) → list_all shows tags ≡ true → list_all shows (without_newest element tags) ≡ true
  without-fine element [] all = refl
  without-fine element (tag ∷ tags) all =
      let parts = and_parts (shows tag) (list_all shows tags) all in
      either (λ (left : List PlainElem). list_all shows left ≡ true) _ tags (tag ∷ without_newest element tags) parts.1
      (one_more tag (without_newest element tags) parts.0 (without-fine element tags parts.1))

  ends : (element : Element) (place : Option ℕ) (state : State) → Fine shows state → Writes says shows (end_at element place state)
  ends element None state fine = record {
    fine = record { opened = fine.opened; pending = without-fine element state.pending fine.pending };
    written = refl;
  }
  ends element (Some inner) state fine = closes (suc inner) inner state fine

  -- ---- tokens

  named : (name : List ℕ) (does : Element → State → Run) (state : State) → Fine shows state
      → ((element : Element) → element_named name ≡ Some element → Writes says shows (does element state))
      → Writes says shows (for_element (element_named name) does state)
  named name does state fine each = go (element_named name) refl
    where
      go : (found : Option Element) → element_named name ≡ found → Writes says shows (for_element found does state)
      go None is = still state fine
      go (Some element) is = each element is

  module _ (reads : read.PlainToken → Bool) (reading : Reads says shows reads) where
    steps_one : (rules : Rules) (token : read.PlainToken) (state : State) → reads token ≡ true → Fine shows state → Writes says shows (step rules token state)
    steps_one rules (read.text_token text) state t fine = texts rules text state (reading.text text t) fine
    steps_one rules (read.start_token name attrs) state t fine =
        named name (λ element. start_step rules (plain_elem element attrs) false) state fine
        (λ element is. starts rules (plain_elem element attrs) false state (reading.start name attrs element is t) fine)
    steps_one rules (read.empty_token name attrs) state t fine =
        named name (λ element. start_step rules (plain_elem element attrs) true) state fine
        (λ element is. starts rules (plain_elem element attrs) true state (reading.empty name attrs element is t) fine)
    steps_one rules (read.end_token name) state t fine =
        named name end_step state fine (λ element is. ends element (open_place element (names state.opened)) state fine)
    steps_one rules (read.hidden_token name body) state t fine = still state fine
    steps_one rules (read.comment_token text) state t fine = still state fine

    steps_all : (rules : Rules) (tokens : List read.PlainToken) (state : State) → list_all reads tokens ≡ true → Fine shows state → Writes says shows (steps rules tokens state)
    steps_all rules [] state all fine = still state fine
    steps_all rules (token ∷ tokens) state all fine =
        let parts = and_parts (reads token) (list_all reads tokens) all in
        follow (step rules token state) (steps rules tokens) (steps_one rules token state parts.0 fine)
        (steps_all rules tokens (step rules token state).state parts.1)

    run-passes : (rules : Rules) (tokens : List read.PlainToken) → list_all reads tokens ≡ true → Writes says shows (run_of rules tokens)
    run-passes rules tokens all =
        follow (steps rules tokens first_state) end_all (steps_all rules tokens first_state all (record { opened = refl; pending = refl }))
        (closes (length (steps rules tokens first_state).state.opened) 0 (steps rules tokens first_state).state)

  -- ---- what is joined, and its tree

  join-passes : (token : Token) (tokens : List Token) → passes says shows token ≡ true → list_all (passes says shows) tokens ≡ true
      → list_all (passes says shows) (join_token token tokens) ≡ true
  join-passes (text_token text) (text_token more ∷ tokens) first all =
      let parts = and_parts (says more) (list_all (passes says shows) tokens) all in
      and_from (says (text ++ more)) (list_all (passes says shows) tokens) (test.joins text more first parts.0) parts.1
  join-passes (text_token text) [] first all = and_from (says text) true first refl
  join-passes (text_token text) (token ∷ tokens) first all = and_from (says text) (list_all (passes says shows) (token ∷ tokens)) first all
  join-passes token tokens first all = and_from (passes says shows token) (list_all (passes says shows) tokens) first all

  joined-passes : (tokens : List Token) → list_all (passes says shows) tokens ≡ true → list_all (passes says shows) (joined tokens) ≡ true
  joined-passes [] all = refl
  joined-passes (token ∷ tokens) all =
      let parts = and_parts (passes says shows token) (list_all (passes says shows) tokens) all in
      join-passes token (joined tokens) parts.0 (joined-passes tokens parts.1)

  -- what closing writes passes, where what it reads does
  pub written-passes : (reads : read.PlainToken → Bool) → Reads says shows reads → (rules : Rules) (tokens : List read.PlainToken)
      → list_all reads tokens ≡ true → list_all (passes says shows) (closed rules tokens) ≡ true
  written-passes reads reading rules tokens all =
      joined-passes (run_of rules tokens).written (run-passes reads reading rules tokens all).written

  module _ (P : Nodes → Type 0) (tells : Tells says shows P) where
    nodes-pass : (nodes : Nodes) → list_all (passes says shows) (tokens_of_nodes nodes) ≡ true → P nodes
    nodes-pass no_nodes all = tells.none
    nodes-pass (text_first text rest) all =
        let parts = and_parts (says text) (list_all (passes says shows) (tokens_of_nodes rest)) all in
        tells.text text rest parts.0 (nodes-pass rest parts.1)
    nodes-pass (elem_first e kids rest) all = go (is_empty_element e.name) all (nodes-pass kids) (nodes-pass rest)
      where
        go : (b : Bool)
            → list_all (passes says shows) (cond b (empty_token e) (start_token e) ∷ (tokens_of_nodes kids ++ (cond b [] (end_token e.name ∷ []) ++ tokens_of_nodes rest))) ≡ true
            → (list_all (passes says shows) (tokens_of_nodes kids) ≡ true → P kids) → (list_all (passes says shows) (tokens_of_nodes rest) ≡ true → P rest)
            → P (elem_first e kids rest)
        go true all k r =
            let parts = and_parts (shows e) (list_all (passes says shows) (tokens_of_nodes kids ++ tokens_of_nodes rest)) all in
            let behind = all-parts (passes says shows) (tokens_of_nodes kids) (tokens_of_nodes rest) parts.1 in
            tells.elem e kids rest parts.0 (k behind.0) (r behind.1)
        go false all k r =
            let parts = and_parts (shows e) (list_all (passes says shows) (tokens_of_nodes kids ++ (end_token e.name ∷ tokens_of_nodes rest))) all in
            let behind = all-parts (passes says shows) (tokens_of_nodes kids) (end_token e.name ∷ tokens_of_nodes rest) parts.1 in
            tells.elem e kids rest parts.0 (k behind.0) (r behind.1)

    -- what the tree of what closing writes is, where what it reads passes
    pub closed-passes : (reads : read.PlainToken → Bool) → Reads says shows reads → (rules : Rules) (tokens : List read.PlainToken) (nodes : Nodes)
        → list_all reads tokens ≡ true → tokens_of_nodes nodes ≡ closed rules tokens → P nodes
    closed-passes reads reading rules tokens nodes all tree =
        nodes-pass nodes (subst (λ (ts : List Token). list_all (passes says shows) ts ≡ true) (sym tree) (written-passes reads reading rules tokens all))
