-- What each step of closing keeps.
use Rattle.std.proofs.Common.{◌≡◌, ℕ, zero, suc, ◌+◌, ◌-◌, ◌≤◌, List, [], ◌∷◌, ◌++◌, length, map, take, drop, reverse, filter, refl, Bool, true, false, cond, not, ◌&&◌, ◌||◌, if◌then◌else◌, nat_le, arith, length-append, length-drop, leb-true}
use Rattle.std.specs.List.{list_any, list_all}
use Rattle.pur_names.specs.declared.elements.Element.{Element}
use Rattle.pur_modules.specs.declared.kinds.Child.TheVariants.{Elem}
use Rattle.pur_modules.specs.Contents.{is_empty_element, is_excluded_in}
use Rattle.pur_settings.specs.Rules.{Rules, permits_element}
use Rattle.pur_tree.specs.Tokens.{text_token, start_token, end_token, empty_token, opening_of, closing_of}
use Rattle.pur_wellform.specs.Search.{allows, level_in, is_shut}
use Rattle.pur_wellform.specs.Closing.{State, Run, names, changed_to, writing, losing, both_runs, is_formatting, kept, newest, pending_after, close_inner, enter, enter_and_close, cost, fits_again, enter_again, turn_of, turns_of, reopen, enter_tag}
use Rattle.pur_tree.specs.Nodes.{PlainElem}
use Rattle.pur_wellform.specs.Standing.{MayOpen, MayHold}
use Rattle.pur_wellform.specs.Invariants.{Writes, writes_nothing, writes_text, writes_empty, writes_start, writes_end, is_permitted, is_pendable, Kept, GoodRun}
use Rattle.pur_wellform.proofs.TableFacts.{left_of, right_of, both, neither_right, from_not, formatting_is_full}
use Rattle.pur_wellform.proofs.ListFacts.{all-filter_too}
use Rattle.pur_laws.proofs.Lists.{all-append, all-drop, all-take, all-reverse}
use Rattle.pur_wellform.proofs.TreeFacts.{writes-append}

pub good-then : (rules : Rules) (s : State) (first second : Run) → GoodRun rules s first → GoodRun rules first.state second
    → GoodRun rules s (both_runs first second)
good-then rules s first second p q = record {
  writes = writes-append p.writes q.writes;
  kept = q.kept;
  paid = omega (arith, p.paid, q.paid);
}

-- nothing is written, and no more is pending
pub good-still : (rules : Rules) (s : State) (pending : List PlainElem) → Kept rules s → list_all (is_pendable rules) pending ≡ true
    → length pending ≤ 128 → GoodRun rules s (changed_to (record { opened = s.opened; pending = pending; rest = s.rest }))
good-still rules s pending k p q = record {
  writes = writes_nothing;
  kept = record { opened = k.opened; pending = p; few = q };
  paid = omega arith;
}

pub good-unchanged : (rules : Rules) (s : State) → Kept rules s → GoodRun rules s (changed_to s)
good-unchanged rules s k = record { writes = writes_nothing; kept = k; paid = omega arith }

pub good-losing : (rules : Rules) (s : State) (text : List ℕ) → Kept rules s → GoodRun rules s (losing text s)
good-losing rules s text k = record { writes = writes_nothing; kept = k; paid = omega arith }

pub good-text : (rules : Rules) (s : State) (text : List ℕ) → Kept rules s → MayHold rules (names s.opened) text
    → GoodRun rules s (writing (text_token text ∷ []) s)
good-text rules s text k m = record { writes = writes_text m writes_nothing; kept = k; paid = omega arith }

-- closing elements
writes-closing : (rules : Rules) (n : ℕ) (tags : List PlainElem)
    → Writes rules (names tags) (map (λ tag. end_token tag.name) (take n tags)) (names (drop n tags))
writes-closing rules zero tags = writes_nothing
writes-closing rules (suc n) [] = writes_nothing
writes-closing rules (suc n) (tag ∷ tags) = writes_end (writes-closing rules n tags)

pending-kept : (rules : Rules) (closed carried pending : List PlainElem) → list_all (is_permitted rules) carried ≡ true
    → list_all (is_pendable rules) pending ≡ true → list_all (is_pendable rules) (pending_after closed carried pending) ≡ true
pending-kept rules closed carried pending p q = go (list_any (λ tag. is_shut tag.name) closed)
  where
    go : (b : Bool) → list_all (is_pendable rules) (if b then [] else newest (pending ++ reverse (filter (λ tag. is_formatting tag.name) carried))) ≡ true
    go true = refl
    go false =
        all-drop (is_pendable rules) (length (pending ++ reverse (filter (λ tag. is_formatting tag.name) carried)) - 128) (pending ++ reverse (filter (λ tag. is_formatting tag.name) carried))
        (all-append (is_pendable rules) pending (reverse (filter (λ tag. is_formatting tag.name) carried)) q
        (all-reverse (is_pendable rules) (filter (λ tag. is_formatting tag.name) carried) (all-filter_too (is_permitted rules) (λ tag. is_formatting tag.name) carried p)))

pending-few : (closed carried pending : List PlainElem) → length (pending_after closed carried pending) ≤ 128
pending-few closed carried pending = go (list_any (λ tag. is_shut tag.name) closed) (pending ++ reverse (filter (λ tag. is_formatting tag.name) carried))
  where
    go : (b : Bool) (all : List PlainElem) → length (if b then [] else newest all) ≤ 128
    go true all = omega arith
    go false all = omega (arith, length-drop (length all - 128) all)

pub good-close : (rules : Rules) (count carried : ℕ) (s : State) → Kept rules s → GoodRun rules s (close_inner count carried s)
good-close rules count carried s k = record {
  writes = writes-closing rules count s.opened;
  kept = record {
    opened = all-drop (is_permitted rules) count s.opened k.opened;
    pending = pending-kept rules (take count s.opened) (take carried s.opened) s.pending (all-take (is_permitted rules) carried s.opened k.opened) k.pending;
    few = pending-few (take count s.opened) (take carried s.opened) s.pending;
  };
  paid = omega arith;
}

-- opening an element
pub good-enter : (rules : Rules) (tag : PlainElem) (s : State) → Kept rules s → MayOpen rules (names s.opened) tag.name
    → is_empty_element tag.name ≡ false → GoodRun rules s (enter tag s)
good-enter rules tag s k m full = record {
  writes = writes_start full m writes_nothing;
  kept = record { opened = both m.permitted k.opened; pending = k.pending; few = k.few };
  paid = omega arith;
}

writes-at_once : (rules : Rules) (es : List Element) (e : PlainElem) → MayOpen rules es e.name → Writes rules es (opening_of e ∷ closing_of e.name) es
writes-at_once rules es e m = go (is_empty_element e.name) refl
  where
    go : (b : Bool) → is_empty_element e.name ≡ b → Writes rules es (cond b (empty_token e) (start_token e) ∷ cond b [] (end_token e.name ∷ [])) es
    go true q = writes_empty q m writes_nothing
    go false q = writes_start q m (writes_end writes_nothing)

pub good-at_once : (rules : Rules) (tag : PlainElem) (s : State) → Kept rules s → MayOpen rules (names s.opened) tag.name
    → GoodRun rules s (enter_and_close tag s)
good-at_once rules tag s k m = record {
  writes = writes-at_once rules (names s.opened) tag m;
  kept = record {
    opened = k.opened;
    pending = pending-kept rules (tag ∷ []) [] s.pending refl k.pending;
    few = pending-few (tag ∷ []) [] s.pending;
  };
  paid = omega arith;
}

pub good-tag : (rules : Rules) (tag : PlainElem) (at_once : Bool) (s : State) → Kept rules s → MayOpen rules (names s.opened) tag.name
    → GoodRun rules s (enter_tag tag at_once s)
good-tag rules tag at_once s k m = go (at_once || is_empty_element tag.name) refl
  where
    go : (b : Bool) → (at_once || is_empty_element tag.name) ≡ b → GoodRun rules s (if b then enter_and_close tag s else enter tag s)
    go true q = good-at_once rules tag s k m
    go false q = good-enter rules tag s k m (neither_right at_once (is_empty_element tag.name) q)

-- opening pending formatting again
pub may_open_again : (rules : Rules) (limit : ℕ) (es : List Element) (tag : PlainElem) → limit ≤ 128 → is_pendable rules tag ≡ true
    → fits_again rules limit es tag.name ≡ true → MayOpen rules es tag.name
may_open_again rules limit es tag l p f =
    let a = allows rules es (Elem tag.name) in
    let x = is_excluded_in es tag.name in
    let n = nat_le (level_in (tag.name ∷ es)) limit in
    let low : level_in (tag.name ∷ es) ≤ limit = leb-true (level_in (tag.name ∷ es)) limit (right_of (not x) n (right_of a (not x && n) f)) in
    record {
      permitted = left_of (permits_element rules tag.name) (is_formatting tag.name) p;
      letter = left_of a (not x && n) f;
      free = from_not x (left_of (not x) n (right_of a (not x && n) f));
      low = omega (arith, low, l);
    }

-- what holds of the open elements, and goes on holding where formatting that fits is opened again
abbrev pub GoesOn : Rules → ℕ → (List Element → Type 0) → Type 0
GoesOn rules limit T = (es : List Element) (e : Element) → is_formatting e ≡ true → fits_again rules limit es e ≡ true → T es → T (e ∷ es)

pub record GoodTurn (rules : Rules) (T : List Element → Type 0) (before : State) (room : ℕ) (run : Run) : Type 0 where
  pub good : GoodRun rules before run
  pub still : T (names run.state.opened)
  pub grows : length run.state.pending ≤ room

pub good-turn : (rules : Rules) (limit : ℕ) (T : List Element → Type 0) (tag : PlainElem) (s : State) → limit ≤ 128 → GoesOn rules limit T
    → Kept rules s → is_pendable rules tag ≡ true → length s.pending + 1 ≤ 128 → T (names s.opened)
    → GoodTurn rules T s (length s.pending + 1) (turn_of rules limit tag s)
good-turn rules limit T tag s l g k p room t = go (fits_again rules limit (names s.opened) tag.name) refl
  where
    formats : is_formatting tag.name ≡ true
    formats = right_of (permits_element rules tag.name) (is_formatting tag.name) p

    paid : (b : Bool) → nat_le (cost tag) s.rest ≡ b → fits_again rules limit (names s.opened) tag.name ≡ true
        → GoodTurn rules T s (length s.pending + 1) (if b then record {
          state = record { opened = kept tag ∷ s.opened; pending = s.pending; rest = s.rest - cost tag };
          written = start_token tag ∷ [];
          lost = [];
          paid = cost tag;
        } else changed_to s)
    paid true q f =
        let m = may_open_again rules limit (names s.opened) tag l p f in
        let enough : cost tag ≤ s.rest = leb-true (cost tag) s.rest q in
        record {
          good = record {
            writes = writes_start (formatting_is_full tag.name (right_of (permits_element rules tag.name) (is_formatting tag.name) p)) m writes_nothing;
            kept = record { opened = both m.permitted k.opened; pending = k.pending; few = k.few };
            paid = omega (arith, enough);
          };
          still = g (names s.opened) tag.name (right_of (permits_element rules tag.name) (is_formatting tag.name) p) f t;
          grows = omega arith;
        }
    paid false q f = record { good = good-unchanged rules s k; still = t; grows = omega arith }

    go : (b : Bool) → fits_again rules limit (names s.opened) tag.name ≡ b
        → GoodTurn rules T s (length s.pending + 1) (if b then enter_again tag s
        else changed_to (record { opened = s.opened; pending = s.pending ++ tag ∷ []; rest = s.rest }))
    go true f = paid (nat_le (cost tag) s.rest) refl f
    go false f = record {
      good = good-still rules s (s.pending ++ tag ∷ []) k (all-append (is_pendable rules) s.pending (tag ∷ []) k.pending (both p refl))
          (omega (arith, length-append s.pending (tag ∷ [])));
      still = t;
      grows = omega (arith, length-append s.pending (tag ∷ []));
    }

pub record GoodTurns (rules : Rules) (T : List Element → Type 0) (before : State) (run : Run) : Type 0 where
  pub good : GoodRun rules before run
  pub still : T (names run.state.opened)

good-turns : (rules : Rules) (limit : ℕ) (T : List Element → Type 0) (tags : List PlainElem) (s : State) → limit ≤ 128 → GoesOn rules limit T
    → Kept rules s → list_all (is_pendable rules) tags ≡ true → length s.pending + length tags ≤ 128 → T (names s.opened)
    → GoodTurns rules T s (turns_of rules limit tags s)
good-turns rules limit T [] s l g k p room t = record { good = good-unchanged rules s k; still = t }
good-turns rules limit T (tag ∷ tags) s l g k p room t =
    let one = good-turn rules limit T tag s l g k (left_of (is_pendable rules tag) (list_all (is_pendable rules) tags) p) (omega (arith, room)) t in
    let more = good-turns rules limit T tags (turn_of rules limit tag s).state l g one.good.kept
    (right_of (is_pendable rules tag) (list_all (is_pendable rules) tags) p) (omega (arith, room, one.grows)) one.still in
    record {
      good = good-then rules s (turn_of rules limit tag s) (turns_of rules limit tags (turn_of rules limit tag s).state) one.good more.good;
      still = more.still;
    }

pub good-reopen : (rules : Rules) (limit : ℕ) (T : List Element → Type 0) (s : State) → limit ≤ 128 → GoesOn rules limit T
    → Kept rules s → T (names s.opened) → GoodTurns rules T s (reopen rules limit s)
good-reopen rules limit T s l g k t =
    let start : State = record { opened = s.opened; pending = []; rest = s.rest } in
    let turns = good-turns rules limit T s.pending (record { opened = s.opened; pending = []; rest = s.rest }) l g
    (record { opened = k.opened; pending = refl; few = omega arith }) k.pending (omega (arith, k.few)) t in
    record {
      good = record { writes = turns.good.writes; kept = turns.good.kept; paid = turns.good.paid };
      still = turns.still;
    }
