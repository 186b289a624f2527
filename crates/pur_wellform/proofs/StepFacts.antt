-- What each token of closing keeps.
use Rattle.std.proofs.Common.{◌≡◌, ℕ, zero, suc, ◌≤◌, List, [], ◌∷◌, length, drop, refl, ap, subst, Bool, true, false, not, ◌&&◌, if◌then◌else◌, Option, Some, None, nat_le, arith, leb-true, drop_of_length-le}
use Rattle.std.specs.List.{list_any, list_all}
use Rattle.pur_names.specs.Elements.{element_named, same_element}
use Rattle.pur_names.specs.declared.elements.Element.{Element}
use Rattle.pur_names.specs.declared.elements.Element.TheVariants.{Tr}
use Rattle.pur_modules.specs.declared.kinds.Child.TheVariants.{Text, Elem}
use Rattle.pur_modules.specs.Contents.{is_excluded, is_excluded_in}
use Rattle.pur_modules.specs.Wrappers.{is_running}
use Rattle.pur_attrlist.specs.Attributes.{Attribute}
use Rattle.pur_settings.specs.Rules.{Rules, permits_element}
use Rattle.pur_tree.specs.Tokens.{text_token}
use Rattle.pur_tree.specs.Places as levels
use Rattle.pur_tree.specs.Nodes.{PlainElem, plain_elem, bare}
use Rattle.pur_tokens.specs.Tokens as read
use Rattle.pur_wellform.specs.Search.{content_in, allows, standing_in, level_in, Entry, barred, direct, inside, entry, wrapped, Place, no_place, at_place, place_of, open_place}
use Rattle.pur_text.specs.Characters.{is_blank}
use Rattle.pur_wellform.specs.Closing.{State, Run, names, changed_to, writing, losing, followed_by, close_inner, reopen, enter_wrapper, reopen_before, enter_tag, put_tag, put_at, start_step, put_text, put_text_by, text_step, without_newest, end_at, end_step, for_element, step, steps, end_all, first_state, run_of}
use Rattle.pur_wellform.specs.Standing.{MayOpen, can_be_closed}
use Rattle.pur_settings.specs.Rules.{permits_found}
use Rattle.pur_wellform.specs.Invariants.{Writes, is_pendable, Kept, GoodRun}
use Rattle.pur_wellform.proofs.TableFacts.{left_of, right_of, both, neither_right, formatting_holds, formatting_excludes, running_is_letter, text_is_letter, running_is_no_row, wrapper_is_free, wrapper_excludes, wrapper_is_full}
use Rattle.pur_laws.proofs.Truth.{or_true}
use Rattle.std.proofs.lemmas.List.{drop-map}
use Rattle.pur_wellform.proofs.RunFacts.{GoesOn, good-then, good-still, good-unchanged, good-losing, good-text, good-close, good-enter, good-tag, good-reopen}
use Rattle.pur_wellform.proofs.PlaceFacts.{IsWay, IsEntry, IsPlace, entry_is, place_is}

pub none_exclude : (es : List Element) (w : Element) → ((outer : Element) → is_excluded outer w ≡ false) → is_excluded_in es w ≡ false
none_exclude [] w h = refl
none_exclude (e ∷ es) w h = rw (h e) (none_exclude es w h)

pub excluded-drop : (n : ℕ) (es : List Element) (e : Element) → is_excluded_in es e ≡ false → is_excluded_in (drop n es) e ≡ false
excluded-drop zero es e h = h
excluded-drop (suc n) [] e h = h
excluded-drop (suc n) (x ∷ es) e h = excluded-drop n es e (neither_right (is_excluded x e) (is_excluded_in es e) h)

rises_by_one : (es : List Element) (e : Element) → same_element e Tr ≡ false → levels.rise (standing_in es).in_table e ≡ 1
rises_by_one es e h = rw h refl

-- a tag in its place
pub record Put (rules : Rules) (x : Element) (before : State) (run : Run) : Type 0 where
  pub good : GoodRun rules before run
  pub may : MayOpen rules (names run.state.opened) x

pub good-wrapper : (rules : Rules) (x : Element) (way : Entry) (s : State) → Kept rules s → permits_element rules x ≡ true
    → IsWay rules (names s.opened) (Elem x) way → is_excluded_in (names s.opened) x ≡ false
    → level_in (x ∷ wrapped way (names s.opened)) ≤ 128 → Put rules x s (enter_wrapper way s)
good-wrapper rules x barred s k p way free low = absurd way
good-wrapper rules x direct s k p way free low = record {
  good = good-unchanged rules s k;
  may = record { permitted = p; letter = way; free = free; low = low };
}
good-wrapper rules x (inside w) s k p way free low = record {
  good = good-enter rules (bare w) s k
      (record {
        permitted = way.permitted;
        letter = way.wraps.letter;
        free = none_exclude (names s.opened) w (λ outer. wrapper_is_free outer w way.wraps.kind);
        low = omega (arith, low);
      })
      (wrapper_is_full w way.wraps.kind);
  may = record { permitted = p; letter = way.wraps.holds; free = rw (wrapper_excludes w x way.wraps.kind) free; low = low };
}

-- what goes on holding for an inline element while formatting is opened round it
record Waits (rules : Rules) (x : Element) (es : List Element) : Type 0 where
  letter : allows rules es (Elem x) ≡ true
  free : is_excluded_in es x ≡ false
  low : level_in es ≤ 127

waits_on : (rules : Rules) (x : Element) → is_running rules.doctype (Elem x) ≡ true → GoesOn rules 127 (Waits rules x)
waits_on rules x r es e f fits t = record {
  letter = rw (formatting_holds rules.doctype (content_in rules es) e f) (running_is_letter rules.doctype x r);
  free = rw (formatting_excludes e x f) t.free;
  low = leb-true (level_in (e ∷ es)) 127
      (right_of (not (is_excluded_in es e)) (nat_le (level_in (e ∷ es)) 127)
      (right_of (allows rules es (Elem e)) (not (is_excluded_in es e) && nat_le (level_in (e ∷ es)) 127) fits));
}

pub good-reopen_before : (rules : Rules) (x : Element) (s : State) → Kept rules s → MayOpen rules (names s.opened) x
    → Put rules x s (reopen_before rules x s)
good-reopen_before rules x s k m = go (is_running rules.doctype (Elem x)) refl
  where
    go : (b : Bool) → is_running rules.doctype (Elem x) ≡ b → Put rules x s (if b then reopen rules 127 s else changed_to s)
    go true r =
        let one = rises_by_one (names s.opened) x (running_is_no_row rules.doctype x r) in
        let low = m.low in
        let turns = good-reopen rules 127 (Waits rules x) s (omega arith) (waits_on rules x r) k
        (record { letter = m.letter; free = m.free; low = omega (arith, low, one) }) in
        let last = rises_by_one (names (reopen rules 127 s).state.opened) x (running_is_no_row rules.doctype x r) in
        let still = turns.still.low in
        record {
          good = turns.good;
          may = record { permitted = m.permitted; letter = turns.still.letter; free = turns.still.free; low = omega (arith, still, last) };
        }
    go false r = record { good = good-unchanged rules s k; may = m }

good-put_tag : (rules : Rules) (tag : PlainElem) (at_once : Bool) (way : Entry) (s : State) → Kept rules s → permits_element rules tag.name ≡ true
    → IsWay rules (names s.opened) (Elem tag.name) way → is_excluded_in (names s.opened) tag.name ≡ false
    → level_in (tag.name ∷ wrapped way (names s.opened)) ≤ 128 → GoodRun rules s (put_tag rules tag at_once way s)
good-put_tag rules tag at_once way s k p is_way free low =
    let first = enter_wrapper way s in
    let wrap = good-wrapper rules tag.name way s k p is_way free low in
    let again = good-reopen_before rules tag.name (enter_wrapper way s).state wrap.good.kept wrap.may in
    let two = good-then rules s (enter_wrapper way s) (reopen_before rules tag.name (enter_wrapper way s).state) wrap.good again.good in
    good-then rules s (followed_by (enter_wrapper way s) (reopen_before rules tag.name))
    (enter_tag tag at_once (reopen_before rules tag.name (enter_wrapper way s).state).state) two
    (good-tag rules tag at_once (reopen_before rules tag.name (enter_wrapper way s).state).state again.good.kept again.may)

good-put_at : (rules : Rules) (tag : PlainElem) (at_once : Bool) (place : Place) (s : State) → Kept rules s → permits_element rules tag.name ≡ true
    → IsPlace rules tag.name (names s.opened) place → is_excluded_in (names s.opened) tag.name ≡ false
    → GoodRun rules s (put_at rules tag at_once place s)
good-put_at rules tag at_once no_place s k p is_place free = good-unchanged rules s k
good-put_at rules tag at_once (at_place inner way) s k p is_way free =
    go (nat_le (level_in (tag.name ∷ wrapped way (drop inner (names s.opened)))) 128) refl
  where
    go : (b : Bool) → nat_le (level_in (tag.name ∷ wrapped way (drop inner (names s.opened)))) 128 ≡ b
        → GoodRun rules s (if b then followed_by (close_inner inner inner s) (put_tag rules tag at_once way) else changed_to s)
    go true l =
        let close = good-close rules inner inner s k in
        let left : drop inner (names s.opened) ≡ names (drop inner s.opened) = drop-map (λ (tag : PlainElem). tag.name) inner s.opened in
        let low : level_in (tag.name ∷ wrapped way (drop inner (names s.opened))) ≤ 128 =
        leb-true (level_in (tag.name ∷ wrapped way (drop inner (names s.opened)))) 128 l in
        good-then rules s (close_inner inner inner s) (put_tag rules tag at_once way (close_inner inner inner s).state) close
        (good-put_tag rules tag at_once way (close_inner inner inner s).state close.kept p
        (subst (λ es. IsWay rules es (Elem tag.name) way) left is_way)
        (subst (λ es. is_excluded_in es tag.name ≡ false) left (excluded-drop inner (names s.opened) tag.name free))
        (subst (λ es. level_in (tag.name ∷ wrapped way es) ≤ 128) left low))
    go false l = good-unchanged rules s k

pub good-start : (rules : Rules) (tag : PlainElem) (at_once : Bool) (s : State) → Kept rules s → permits_element rules tag.name ≡ true
    → GoodRun rules s (start_step rules tag at_once s)
good-start rules tag at_once s k p = go (is_excluded_in (names s.opened) tag.name) refl
  where
    go : (b : Bool) → is_excluded_in (names s.opened) tag.name ≡ b
        → GoodRun rules s (if b then changed_to s else put_at rules tag at_once (place_of rules tag.name (names s.opened)) s)
    go true x = good-unchanged rules s k
    go false x = good-put_at rules tag at_once (place_of rules tag.name (names s.opened)) s k p (place_is rules tag.name (names s.opened)) x

-- a text
text_goes_on : (rules : Rules) → GoesOn rules 128 (λ es. allows rules es Text ≡ true)
text_goes_on rules es e f fits t = rw (formatting_holds rules.doctype (content_in rules es) e f) (text_is_letter rules.doctype)

good-put_text : (rules : Rules) (text : List ℕ) (s : State) → Kept rules s → allows rules (names s.opened) Text ≡ true
    → GoodRun rules s (put_text rules text s)
good-put_text rules text s k t =
    let turns = good-reopen rules 128 (λ es. allows rules es Text ≡ true) s (omega arith) (text_goes_on rules) k t in
    good-then rules s (reopen rules 128 s) (writing (text_token text ∷ []) (reopen rules 128 s).state) turns.good
    (good-text rules (reopen rules 128 s).state text turns.good.kept
    (record { holds = rw turns.still (or_true (is_blank text)) }))

good-text_by : (rules : Rules) (text : List ℕ) (way : Entry) (s : State) → Kept rules s → IsEntry rules (names s.opened) Text way
    → GoodRun rules s (put_text_by rules text way s)
good-text_by rules text barred s k e = good-losing rules s text k
good-text_by rules text direct s k e = good-put_text rules text s k e
good-text_by rules text (inside w) s k e = go (nat_le (level_in (w ∷ names s.opened)) 128) refl
  where
    go : (b : Bool) → nat_le (level_in (w ∷ names s.opened)) 128 ≡ b
        → GoodRun rules s (if b then followed_by (enter_wrapper (inside w) s) (put_text rules text) else losing text s)
    go true l =
        let one = good-enter rules (bare w) s k
        (record {
          permitted = e.permitted;
          letter = e.wraps.letter;
          free = none_exclude (names s.opened) w (λ outer. wrapper_is_free outer w e.wraps.kind);
          low = leb-true (level_in (w ∷ names s.opened)) 128 l;
        })
        (wrapper_is_full w e.wraps.kind) in
        good-then rules s (enter_wrapper (inside w) s) (put_text rules text (enter_wrapper (inside w) s).state) one
        (good-put_text rules text (enter_wrapper (inside w) s).state one.kept e.wraps.holds)
    go false l = good-losing rules s text k

pub good-text_step : (rules : Rules) (text : List ℕ) (s : State) → Kept rules s → GoodRun rules s (text_step rules text s)
good-text_step rules text s k = go (is_blank text) refl
  where
    go : (b : Bool) → is_blank text ≡ b
        → GoodRun rules s (if b then writing (text_token text ∷ []) s else put_text_by rules text (entry rules (names s.opened) Text) s)
    go true b = good-text rules s text k (record { holds = rw b refl })
    go false b = good-text_by rules text (entry rules (names s.opened) Text) s k (entry_is rules (names s.opened) Text)

-- an end tag
pendable-without : (rules : Rules) (e : Element) (tags : List PlainElem) → list_all (is_pendable rules) tags ≡ true
    → list_all (is_pendable rules) (without_newest e tags) ≡ true
pendable-without rules e [] p = p
pendable-without rules e (tag ∷ tags) p =
    go (same_element e tag.name && not (list_any (λ later. same_element e later.name) tags))
    (pendable-without rules e tags (right_of (is_pendable rules tag) (list_all (is_pendable rules) tags) p))
  where
    go : (b : Bool) → list_all (is_pendable rules) (without_newest e tags) ≡ true
        → list_all (is_pendable rules) (if b then tags else tag ∷ without_newest e tags) ≡ true
    go true r = right_of (is_pendable rules tag) (list_all (is_pendable rules) tags) p
    go false r = both (left_of (is_pendable rules tag) (list_all (is_pendable rules) tags) p) r

length-without : (e : Element) (tags : List PlainElem) → length (without_newest e tags) ≤ length tags
length-without e [] = omega arith
length-without e (tag ∷ tags) = go (same_element e tag.name && not (list_any (λ later. same_element e later.name) tags)) (length-without e tags)
  where
    go : (b : Bool) → length (without_newest e tags) ≤ length tags
        → length (if b then tags else tag ∷ without_newest e tags) ≤ length (tag ∷ tags)
    go true r = omega arith
    go false r = omega (arith, r)

pub good-end : (rules : Rules) (e : Element) (s : State) → Kept rules s → GoodRun rules s (end_step e s)
good-end rules e s k = go (open_place e (names s.opened))
  where
    go : (place : Option ℕ) → GoodRun rules s (end_at e place s)
    go None =
        let few = k.few in
        good-still rules s (without_newest e s.pending) k (pendable-without rules e s.pending k.pending) (omega (arith, length-without e s.pending, few))
    go (Some inner) = good-close rules (suc inner) inner s k

-- the tag of an element, if it names one
good-named : (rules : Rules) (found : Option Element) (attrs : List Attribute) (at_once : Bool) (s : State) → permits_found rules found ≡ true
    → Kept rules s → GoodRun rules s (for_element found (λ element. start_step rules (plain_elem element attrs) at_once) s)
good-named rules None attrs at_once s p k = good-unchanged rules s k
good-named rules (Some e) attrs at_once s p k = good-start rules (plain_elem e attrs) at_once s k p

good-named_end : (rules : Rules) (found : Option Element) (s : State) → Kept rules s → GoodRun rules s (for_element found end_step s)
good-named_end rules None s k = good-unchanged rules s k
good-named_end rules (Some e) s k = good-end rules e s k

-- a token, and all tokens
pub good-step : (rules : Rules) (token : read.PlainToken) (s : State) → can_be_closed rules token ≡ true → Kept rules s → GoodRun rules s (step rules token s)
good-step rules (read.text_token text) s p k = good-text_step rules text s k
good-step rules (read.start_token name attrs) s p k = good-named rules (element_named name) attrs false s p k
good-step rules (read.empty_token name attrs) s p k = good-named rules (element_named name) attrs true s p k
good-step rules (read.end_token name) s p k = good-named_end rules (element_named name) s k
good-step rules (read.hidden_token name body) s p k = good-unchanged rules s k
good-step rules (read.comment_token text) s p k = good-unchanged rules s k

pub good-steps : (rules : Rules) (tags : List read.PlainToken) (s : State) → list_all (can_be_closed rules) tags ≡ true → Kept rules s
    → GoodRun rules s (steps rules tags s)
good-steps rules [] s p k = good-unchanged rules s k
good-steps rules (tag ∷ tags) s p k =
    let one = good-step rules tag s (left_of (can_be_closed rules tag) (list_all (can_be_closed rules) tags) p) k in
    good-then rules s (step rules tag s) (steps rules tags (step rules tag s).state) one
    (good-steps rules tags (step rules tag s).state (right_of (can_be_closed rules tag) (list_all (can_be_closed rules) tags) p) one.kept)

pub first_is_kept : (rules : Rules) → Kept rules first_state
first_is_kept rules = record { opened = refl; pending = refl; few = omega arith }

pub good-run : (rules : Rules) (tags : List read.PlainToken) → list_all (can_be_closed rules) tags ≡ true → GoodRun rules first_state (run_of rules tags)
good-run rules tags p =
    let all = good-steps rules tags first_state p (first_is_kept rules) in
    good-then rules first_state (steps rules tags first_state) (end_all (steps rules tags first_state).state) all
    (good-close rules (length (steps rules tags first_state).state.opened) 0 (steps rules tags first_state).state all.kept)

-- at the end nothing is open
pub run_ends : (rules : Rules) (tags : List read.PlainToken) → names (run_of rules tags).state.opened ≡ []
run_ends rules tags =
    ap names (drop_of_length-le (steps rules tags first_state).state.opened (omega arith))

pub run_writes : (rules : Rules) (tags : List read.PlainToken) → list_all (can_be_closed rules) tags ≡ true → Writes rules [] (run_of rules tags).written []
run_writes rules tags p = subst (λ es. Writes rules [] (run_of rules tags).written es) (run_ends rules tags) (good-run rules tags p).writes

pub run_pays : (rules : Rules) (tags : List read.PlainToken) → list_all (can_be_closed rules) tags ≡ true → (run_of rules tags).paid ≤ 1048576
run_pays rules tags p = let paid = (good-run rules tags p).paid in omega (arith, paid)

pub few_pend : (rules : Rules) (tags : List read.PlainToken) → list_all (can_be_closed rules) tags ≡ true → length (steps rules tags first_state).state.pending ≤ 128
few_pend rules tags p = (good-steps rules tags first_state p (first_is_kept rules)).kept.few

pub prefix_is_good : (rules : Rules) (tags : List read.PlainToken) → list_all (can_be_closed rules) tags ≡ true
    → GoodRun rules first_state (steps rules tags first_state)
prefix_is_good rules tags p = good-steps rules tags first_state p (first_is_kept rules)
