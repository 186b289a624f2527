-- A start tag in the program, step by step.
use Rattle.std.proofs.Common.{arith, ◌≡◌, ℕ, ◌-◌, ◌≤◌, ◌<◌, List, [], ◌∷◌, ◌++◌, length, map, take, drop, reverse, refl, ap, sym, subst, ◌∙◌, Bool, true, false, nat_le, le-leb, leb-true, ◌↔◌}
use Rattle.std.proofs.lemmas.Bool.Decides.{nat_tests}
use Rattle.std.specs.Bool.{IsTrue}
use Rattle.std.proofs.lemmas.List.{take-append-drop, drop_at}
use Rattle.pur_names.specs.declared.elements.Element.{Element}
use Rattle.pur_modules.specs.declared.kinds.Child.TheVariants.{Elem}
use Rattle.pur_settings.specs.Rules.{Rules, permits_element}
use Rattle.pur_tree.specs.Nodes.{PlainElem}
use Rattle.pur_wellform.specs.declared.open_elements.Open.{Open}
use Rattle.pur_wellform.specs.declared.machine.Machine.{Machine}
use Rattle.pur_modules.specs.Contents.{is_excluded_in}
use Rattle.pur_wellform.specs.Search.{level_in, Entry, barred, direct, inside, wrapped, Place, at_place, place_of}
use Rattle.pur_wellform.specs.Closing.{State, names, changed_to, followed_by, close_inner, enter_wrapper, reopen_before, enter_tag, put_tag, put_at, start_step}
use Rattle.pur_wellform.specs.Invariants.{Kept}
use Rattle.pur_wellform.specs.Private.Opens.{tag_of, tags_of, names_of, AreOpenUnder, AreOpen}
use Rattle.pur_wellform.specs.Private.Machines.{state_of, IsMachine, Did, CanWrap}
use Rattle.pur_wellform.proofs.TableFacts.{wrapper_is_full}
use Rattle.pur_wellform.proofs.ListFacts.{nat_le_false}
use Rattle.std.proofs.lemmas.List.{drop-map}
use Rattle.pur_wellform.proofs.PlaceFacts.{IsWay, IsPlace, place_is}
use Rattle.pur_wellform.proofs.RunFacts.{good-close}
use Rattle.pur_wellform.proofs.StepFacts.{good-wrapper, good-reopen_before, excluded-drop}
use Rattle.pur_wellform.proofs.MachineFacts.{did-nothing, did-next, tags_cut, length-cut}

-- the open elements but the innermost
open_under-take : (rules : Rules) (outer : List PlainElem) (front back : List Open) → AreOpenUnder rules outer (front ++ back) → AreOpenUnder rules outer front
open_under-take rules outer [] back h = tt
open_under-take rules outer (o ∷ front) back h = (h.0, open_under-take rules (tag_of o ∷ outer) front back h.1)

pub open_take : (rules : Rules) (os outer : List Open) (k : ℕ) → outer ≡ take k os → AreOpen rules os → AreOpen rules outer
open_take rules os outer k e h = record {
  each = subst (AreOpenUnder rules []) (sym e) (open_under-take rules [] (take k os) (drop k os) (subst (AreOpenUnder rules []) (sym (take-append-drop k os)) h.each));
}

names_take : (os outer : List Open) (n : ℕ) → n ≤ length os → outer ≡ take (length os - n) os → names_of outer ≡ drop n (names_of os)
names_take os outer n h e =
    ap names_of e
    ∙ sym (drop-map (λ (tag : PlainElem). tag.name) n (tags_of os)
    ∙ ap names (ap (drop n) (tags_cut os n h)
    ∙ drop_at (reverse (map tag_of (drop (length os - n) os))) (tags_of (take (length os - n) os)) n (length-cut os n h)))

-- the level at a place, about the plain state
pub level_now : (os outer : List Open) (x : Element) (way : Entry) (inner level : ℕ) → inner ≤ length os
    → outer ≡ take (length os - inner) os → level ≡ level_in (x ∷ wrapped way (names_of outer)) → level ≡ level_in (x ∷ wrapped way (drop inner (names_of os)))
level_now os outer x way inner level h o l = l ∙ ap (λ es. level_in (x ∷ wrapped way es)) (names_take os outer inner h o)

-- what is known on the way of a tag to its place
pub record Walk (rules : Rules) (x : Element) (s : State) (inner : ℕ) (way : Entry) : Type 0 where
  pub wraps : CanWrap rules (names (close_inner inner inner s).state.opened) way
  pub kept : Kept rules (enter_wrapper way (close_inner inner inner s).state).state
  pub low : level_in (x ∷ names (reopen_before rules x (enter_wrapper way (close_inner inner inner s).state).state).state.opened) ≤ 128

can_wrap : (rules : Rules) (x : Element) (es : List Element) (way : Entry) → IsWay rules es (Elem x) way → level_in (x ∷ wrapped way es) ≤ 128
    → CanWrap rules es way
can_wrap rules x es barred w l = tt
can_wrap rules x es direct w l = tt
can_wrap rules x es (inside wrapper) w l = (wrapper_is_full wrapper w.wraps.kind, omega (arith, l))

pub walk : (rules : Rules) (x : Element) (s : State) (inner level : ℕ) (way : Entry) → Kept rules s → permits_element rules x ≡ true
    → at_place inner way ≡ place_of rules x (names s.opened) → is_excluded_in (names s.opened) x ≡ false
    → level ≡ level_in (x ∷ wrapped way (drop inner (names s.opened))) → level ≤ 128 → Walk rules x s inner way
walk rules x s inner level way k p place free l fits =
    let is_place : IsWay rules (drop inner (names s.opened)) (Elem x) way = subst (IsPlace rules x (names s.opened)) (sym place) (place_is rules x (names s.opened)) in
    let left : drop inner (names s.opened) ≡ names (drop inner s.opened) = drop-map (λ (tag : PlainElem). tag.name) inner s.opened in
    let is_way = subst (λ es. IsWay rules es (Elem x) way) left is_place in
    let low : level_in (x ∷ wrapped way (drop inner (names s.opened))) ≤ 128 = omega (arith, l, fits) in
    let now_low = subst (λ es. level_in (x ∷ wrapped way es) ≤ 128) left low in
    let close = good-close rules inner inner s k in
    let wrap = good-wrapper rules x way (close_inner inner inner s).state close.kept p is_way
    (subst (λ es. is_excluded_in es x ≡ false) left (excluded-drop inner (names s.opened) x free)) now_low in
    let again = good-reopen_before rules x (enter_wrapper way (close_inner inner inner s).state).state wrap.good.kept wrap.may in
    record {
      wraps = can_wrap rules x (names (drop inner s.opened)) way is_way now_low;
      kept = wrap.good.kept;
      low = again.may.low;
    }

-- what a start tag does, in each case
pub did-excluded : (rules : Rules) (m : Machine) (tag : PlainElem) (at_once : Bool) → IsMachine rules m → is_excluded_in (names_of m.opened.items) tag.name ≡ true
    → Did rules m m (start_step rules tag at_once (state_of m))
did-excluded rules m tag at_once h x =
    subst (Did rules m m) (sym (let s : start_step rules tag at_once (state_of m) ≡ changed_to (state_of m) = rw x refl in s)) (did-nothing rules m h)

pub did-placed : (rules : Rules) (m new : Machine) (tag : PlainElem) (at_once : Bool) (place : Place) → is_excluded_in (names_of m.opened.items) tag.name ≡ false
    → place ≡ place_of rules tag.name (names_of m.opened.items) → Did rules m new (put_at rules tag at_once place (state_of m))
    → Did rules m new (start_step rules tag at_once (state_of m))
did-placed rules m new tag at_once place x p d =
    subst (Did rules m new) (sym (let s : start_step rules tag at_once (state_of m) ≡ put_at rules tag at_once place (state_of m) = rw (x, ← p) refl in s)) d

pub did-too_deep : (rules : Rules) (m : Machine) (tag : PlainElem) (at_once : Bool) (inner level : ℕ) (way : Entry) → IsMachine rules m
    → level ≡ level_in (tag.name ∷ wrapped way (drop inner (names_of m.opened.items))) → 128 < level
    → Did rules m m (put_at rules tag at_once (at_place inner way) (state_of m))
did-too_deep rules m tag at_once inner level way h l deep =
    subst (Did rules m m) (sym (let s : put_at rules tag at_once (at_place inner way) (state_of m) ≡ changed_to (state_of m) =
    rw (nat_le_false (level_in (tag.name ∷ wrapped way (drop inner (names_of m.opened.items)))) 128 (omega (arith, l, deep))) refl in s)) (did-nothing rules m h)

pub did-put_at : (rules : Rules) (m0 m1 m2 m3 m4 : Machine) (tag : PlainElem) (at_once : Bool) (inner level : ℕ) (way : Entry)
    → level ≡ level_in (tag.name ∷ wrapped way (drop inner (names_of m0.opened.items))) → level ≤ 128
    → Did rules m0 m1 (close_inner inner inner (state_of m0)) → Did rules m1 m2 (enter_wrapper way (state_of m1))
    → Did rules m2 m3 (reopen_before rules tag.name (state_of m2)) → Did rules m3 m4 (enter_tag tag at_once (state_of m3))
    → Did rules m0 m4 (put_at rules tag at_once (at_place inner way) (state_of m0))
did-put_at rules m0 m1 m2 m3 m4 tag at_once inner level way l fits a b c d =
    subst (Did rules m0 m4)
    (sym (let s : put_at rules tag at_once (at_place inner way) (state_of m0) ≡ followed_by (close_inner inner inner (state_of m0)) (put_tag rules tag at_once way) =
    rw (le-leb (level_in (tag.name ∷ wrapped way (drop inner (names_of m0.opened.items)))) 128 (omega (arith, l, fits))) refl in s))
    (did-next rules m0 m1 m4 (close_inner inner inner (state_of m0)) (put_tag rules tag at_once way) a
    (did-next rules m1 m3 m4 (followed_by (enter_wrapper way (state_of m1)) (reopen_before rules tag.name)) (enter_tag tag at_once)
    (did-next rules m1 m2 m3 (enter_wrapper way (state_of m1)) (reopen_before rules tag.name) b c) d))

-- what the calls on the way ask for
pub wraps_now : (rules : Rules) (m0 m1 : Machine) (x : Element) (inner : ℕ) (way : Entry) → Walk rules x (state_of m0) inner way
    → Did rules m0 m1 (close_inner inner inner (state_of m0)) → CanWrap rules (names_of m1.opened.items) way
wraps_now rules m0 m1 x inner way w a = subst (λ (s : State). CanWrap rules (names s.opened) way) (sym a.state) w.wraps

pub kept_now : (rules : Rules) (m0 m1 m2 : Machine) (x : Element) (inner : ℕ) (way : Entry) → Walk rules x (state_of m0) inner way
    → Did rules m0 m1 (close_inner inner inner (state_of m0)) → Did rules m1 m2 (enter_wrapper way (state_of m1)) → Kept rules (state_of m2)
kept_now rules m0 m1 m2 x inner way w a b =
    subst (Kept rules) (sym (b.state ∙ ap (λ (s : State). (enter_wrapper way s).state) a.state)) w.kept

pub low_now : (rules : Rules) (m0 m1 m2 m3 : Machine) (x : Element) (inner : ℕ) (way : Entry) → Walk rules x (state_of m0) inner way
    → Did rules m0 m1 (close_inner inner inner (state_of m0)) → Did rules m1 m2 (enter_wrapper way (state_of m1)) → Did rules m2 m3 (reopen_before rules x (state_of m2))
    → level_in (x ∷ names_of m3.opened.items) ≤ 128
low_now rules m0 m1 m2 m3 x inner way w a b c =
    let state : state_of m3 ≡ (reopen_before rules x (enter_wrapper way (close_inner inner inner (state_of m0)).state).state).state =
    c.state ∙ ap (λ (s : State). (reopen_before rules x s).state) (b.state ∙ ap (λ (s : State). (enter_wrapper way s).state) a.state) in
    subst (λ (s : State). level_in (x ∷ names s.opened) ≤ 128) (sym state) w.low

-- what the test of a level says
pub too_deep : (b : Bool) (n : ℕ) → IsTrue b ↔ (n ≤ 128) → b ≡ false → 128 < n
too_deep b n h e = go (nat_le n 128) refl
  where
    go : (x : Bool) → nat_le n 128 ≡ x → 128 < n
    go true l = absurd (let t : b ≡ true = h.1 (leb-true n 128 l) in cc)
    go false l = grind (arith, nat_tests, l)

pub fits_there : (b : Bool) (n : ℕ) → IsTrue b ↔ (n ≤ 128) → b ≡ true → n ≤ 128
fits_there b n h e = h.0 e
