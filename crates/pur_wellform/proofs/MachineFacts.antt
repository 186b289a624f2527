-- What the machine of the program does, as runs.
use Rattle.std.proofs.Common.{arith, ◌-◌, ◌≡◌, ℕ, zero, suc, ◌+◌, ◌≤◌, ◌<◌, List, [], ◌∷◌, ◌++◌, length, map, take, drop, reverse, filter, ap₂, ◌||◌, refl, ap, sym, subst, ◌∙◌, Bool, true, false, cond, if◌then◌else◌, append_assoc, append-nil}
use Rattle.std.proofs.lemmas.List.{same_from_push, reverse-append, take_at, length-reverse, take-append-drop, length-drop}
use Rattle.std.specs.List.{list_any}
use Rattle.pur_names.specs.declared.elements.Element.{Element}
use Rattle.pur_modules.specs.Contents.{is_empty_element}
use Rattle.pur_settings.specs.Rules.{Rules}
use Rattle.pur_tree.specs.Building.{written_of, opened_of, can_hold, last_of}
use Rattle.pur_tree.specs.Nodes.{PlainElem}
use Rattle.pur_tree.specs.Places as levels
use Rattle.pur_tree.specs.Tokens.{Token, start_token, opening_of, closing_of, end_token, text_token, joined}
use Rattle.pur_tree.proofs.BuildingLemmas.{last_of-more}
use Rattle.pur_tree.proofs.TokensLemmas.{joined-joined}
use Rattle.pur_wellform.specs.declared.open_elements.Open.{Open}
use Rattle.pur_wellform.specs.declared.machine.Machine.{Machine}
use Rattle.pur_wellform.specs.declared.machine.Pending.{Pending}
use Rattle.pur_wellform.specs.Search.{standing_in, level_in, is_shut}
use Rattle.pur_wellform.specs.Closing.{State, Run, names, kept, both_runs, changed_to, enter, is_formatting, newest, close_inner, writing, enter_and_close}
use Rattle.pur_wellform.specs.Private.Opens.{tag_of, tags_under, tags_of, names_of, IsOpen, AreOpenUnder, AreOpen}
use Rattle.pur_wellform.specs.Private.Machines.{pending_tag, state_of, IsMachine, Did, leaving, waiting, carrying_out, settled}
use Rattle.std.proofs.lemmas.List.{drop-map, length-map}
use Rattle.pur_wellform.proofs.OpenFacts.{tags_of-more, open-more, innermost}

-- where the children of the open elements stand, for the builder as for the notes
standing-under : (outer : List PlainElem) (os : List Open)
    → levels.inside_all (standing_in (names outer)) (map (λ o. o.name) os) ≡ standing_in (names (tags_under outer os))
standing-under outer [] = refl
standing-under outer (o ∷ os) = standing-under (tag_of o ∷ outer) os

pub room : (os : List Open) (es : List Element) (e : Element) → es ≡ map (λ o. o.name) os → level_in (e ∷ names_of os) ≤ 128 → levels.LevelFits es e
room os es e same low =
    subst (λ xs. levels.LevelFits xs e) (sym same)
    (subst (λ at. (levels.inside at e).level ≤ levels.level_limit) (sym (standing-under [] os)) low)

-- the innermost open element may hold something
holds_under : (rules : Rules) (outer : List PlainElem) (os : List Open) → AreOpenUnder rules outer os → can_hold (map (λ o. o.name) os) ≡ true
holds_under rules outer [] h = refl
holds_under rules outer (o ∷ []) h = rw h.0.full refl
holds_under rules outer (o ∷ p ∷ os) h = holds_under rules (tag_of o ∷ outer) (p ∷ os) h.1

pub holds : (rules : Rules) (m : Machine) → IsMachine rules m → can_hold (opened_of m.builder) ≡ true
holds rules m h = rw h.same (holds_under rules [] m.opened.items h.known.each)

pub length-names : (os : List Open) → length (map (λ o. o.name) os) ≡ length os
length-names [] = refl
length-names (o ∷ os) = ap suc (length-names os)

-- some element is open in the builder where one is noted
pub some_open : (rules : Rules) (m : Machine) → IsMachine rules m → 0 < length m.opened.items → 0 < length (opened_of m.builder)
some_open rules m h some = omega (arith, some, ap length h.same, length-names m.opened.items)

-- nothing done, and one thing after another
pub did-nothing : (rules : Rules) (m : Machine) → IsMachine rules m → Did rules m m (changed_to (state_of m))
did-nothing rules m h = record { machine = h; state = refl; written = λ more. refl }

pub did-then : (rules : Rules) (old mid new : Machine) (first second : Run) → Did rules old mid first → Did rules mid new second
    → Did rules old new (both_runs first second)
did-then rules old mid new first second p q = record {
  machine = q.machine;
  state = q.state;
  written = λ more. q.written more ∙ p.written (second.written ++ more)
      ∙ ap (λ ts. joined (written_of old.builder ++ ts)) (sym (append_assoc first.written second.written more));
}

-- one thing after another in the program
pub did-next : (rules : Rules) (old mid new : Machine) (first : Run) (next : State → Run) → Did rules old mid first → Did rules mid new (next (state_of mid))
    → Did rules old new (both_runs first (next first.state))
did-next rules old mid new first next p q =
    did-then rules old mid new first (next first.state) p (subst (λ s. Did rules mid new (next s)) p.state q)

-- what does a run does another one that leaves the same state and writes the same
pub did-as : (rules : Rules) (old new : Machine) (run other : Run) → Did rules old new run → run.state ≡ other.state → run.written ≡ other.written
    → Did rules old new other
did-as rules old new run other d s w = record {
  machine = d.machine;
  state = d.state ∙ s;
  written = λ more. d.written more ∙ ap (λ ts. joined (written_of old.builder ++ (ts ++ more))) w;
}

-- what is written stands at the end
pub did-exactly : (rules : Rules) (old new : Machine) (run : Run) → IsMachine rules new → state_of new ≡ run.state
    → written_of new.builder ≡ written_of old.builder ++ run.written → Did rules old new run
did-exactly rules old new run m s w = record {
  machine = m;
  state = s;
  written = λ more. rw w (ap joined (append_assoc (written_of old.builder) run.written more));
}

pub map-more : {X Y : Type 0} (f : X → Y) (xs : List X) (x : X) → map f (xs ++ (x ∷ [])) ≡ map f xs ++ (f x ∷ [])
map-more f [] x = refl
map-more f (y ∷ xs) x = ap (λ ys. f y ∷ ys) (map-more f xs x)

abbrev pub state : List PlainElem → List PlainElem → ℕ → State
state opened pending rest = record { opened = opened; pending = pending; rest = rest }

pub state_same : (a b c d : List PlainElem) (n m : ℕ) → a ≡ b → c ≡ d → n ≡ m → state a c n ≡ state b d m
state_same a b c d n m p q r = rw (p, q, r) refl

-- the machine with other things waiting or to be paid
pub still_machine : (rules : Rules) (old new : Machine) → IsMachine rules old → new.opened.items ≡ old.opened.items → opened_of new.builder ≡ opened_of old.builder
    → IsMachine rules new
still_machine rules old new h opens same = record {
  known = subst (AreOpen rules) (sym opens) h.known;
  same = same ∙ h.same ∙ ap (map (λ o. o.name)) (sym opens);
}

-- nothing is written, and as many are open
pub did-changed : (rules : Rules) (old new : Machine) (pending : List PlainElem) (rest : ℕ) → IsMachine rules old → new.builder ≡ old.builder
    → new.opened.items ≡ old.opened.items → map pending_tag new.pending.items ≡ pending → new.rest ≡ rest
    → Did rules old new (changed_to (state (tags_of old.opened.items) pending rest))
did-changed rules old new pending rest h builder opens pends rests =
    did-exactly rules old new (changed_to (state (tags_of old.opened.items) pending rest))
    (still_machine rules old new h opens (ap opened_of builder))
    (state_same (tags_of new.opened.items) (tags_of old.opened.items) (map pending_tag new.pending.items) pending new.rest rest (ap tags_of opens) pends rests)
    (ap written_of builder ∙ sym (append-nil (written_of old.builder)))

-- an element that isn't EMPTY is opened by its start tag
opening_full : (e : PlainElem) → is_empty_element e.name ≡ false → opening_of e ≡ start_token e
opening_full e h = rw h refl

tag_same : (o : Open) (e : PlainElem) → o.name ≡ e.name → o.attrs ≡ (kept e).attrs → tag_of o ≡ kept e
tag_same o e n a = rw (n, a) refl

pub did-enter : (rules : Rules) (old new : Machine) (o : Open) (e : PlainElem) → IsMachine rules old → is_empty_element e.name ≡ false
    → o.name ≡ e.name → o.attrs ≡ (kept e).attrs → IsOpen rules (e.name ∷ names_of old.opened.items) o
    → new.opened.items ≡ old.opened.items ++ (o ∷ []) → new.pending.items ≡ old.pending.items → new.rest ≡ old.rest
    → opened_of new.builder ≡ opened_of old.builder ++ (e.name ∷ []) → written_of new.builder ≡ written_of old.builder ++ (opening_of e ∷ [])
    → Did rules old new (enter e (state_of old))
did-enter rules old new o e h full n a known opens pends rests same written =
    did-exactly rules old new (enter e (state_of old))
    (record {
      known = subst (AreOpen rules) (sym opens) (open-more rules old.opened.items o (subst (λ x. IsOpen rules (x ∷ names_of old.opened.items) o) (sym n) known) h.known);
      same = same ∙ ap (λ es. es ++ (e.name ∷ [])) h.same ∙ ap (λ x. map (λ o. o.name) old.opened.items ++ (x ∷ [])) (sym n)
          ∙ sym (map-more (λ (o : Open). o.name) old.opened.items o) ∙ ap (map (λ o. o.name)) (sym opens);
    })
    (state_same (tags_of new.opened.items) (kept e ∷ tags_of old.opened.items) (map pending_tag new.pending.items) (map pending_tag old.pending.items) new.rest old.rest
    (ap tags_of opens ∙ tags_of-more old.opened.items o ∙ ap (λ t. t ∷ tags_of old.opened.items) (tag_same o e n a)) (ap (map pending_tag) pends) rests)
    (written ∙ ap (λ t. written_of old.builder ++ (t ∷ [])) (opening_full e full))

-- closing the innermost element
pub did-leave : (rules : Rules) (old new : Machine) (o : Open) → IsMachine rules old → old.opened.items ≡ new.opened.items ++ (o ∷ [])
    → new.pending.items ≡ old.pending.items → new.rest ≡ old.rest
    → opened_of old.builder ≡ opened_of new.builder ++ (last_of (opened_of old.builder) ∷ [])
    → written_of new.builder ≡ written_of old.builder ++ closing_of (last_of (opened_of old.builder))
    → Did rules old new (leaving 1 (state_of old))
did-leave rules old new o h opens pends rests same written =
    let i = innermost rules old.opened.items new.opened.items o h.known opens in
    let all : opened_of old.builder ≡ map (λ o. o.name) new.opened.items ++ (o.name ∷ []) =
    h.same ∙ ap (map (λ o. o.name)) opens ∙ map-more (λ (o : Open). o.name) new.opened.items o in
    let last : last_of (opened_of old.builder) ≡ o.name = ap last_of all ∙ last_of-more (map (λ o. o.name) new.opened.items) o.name in
    did-exactly rules old new (leaving 1 (state_of old))
    (record {
      known = i.rest;
      same = (same_from_push (opened_of new.builder) (map (λ o. o.name) new.opened.items) (last_of (opened_of old.builder)) o.name (sym same ∙ all)).0;
    })
    (state_same (tags_of new.opened.items) (drop 1 (tags_of old.opened.items)) (map pending_tag new.pending.items) (map pending_tag old.pending.items) new.rest old.rest
    (sym (ap (drop 1) i.tags)) (ap (map pending_tag) pends) rests)
    (written ∙ ap (λ ts. written_of old.builder ++ ts) (ap closing_of last ∙ closing_full o.name i.known.full ∙ sym (ap (λ ts. map (λ (tag : PlainElem). end_token tag.name) (take 1 ts)) i.tags)))
  where
    closing_full : (e : Element) → is_empty_element e ≡ false → closing_of e ≡ end_token e ∷ []
    closing_full e h = rw h refl

-- what waits behind others, outermost first
abbrev formats : PlainElem → Bool
formats tag = is_formatting tag.name

waits_last : (pending tags : List PlainElem) (x : PlainElem)
    → (pending ++ reverse (filter formats tags)) ++ filter formats (x ∷ []) ≡ pending ++ reverse (filter formats (x ∷ tags))
waits_last pending tags x = go (formats x)
  where
    go : (b : Bool) → (pending ++ reverse (filter formats tags)) ++ cond b (x ∷ []) []
        ≡ pending ++ reverse (cond b (x ∷ filter formats tags) (filter formats tags))
    go true = append_assoc pending (reverse (filter formats tags)) (x ∷ [])
        ∙ ap (λ ts. pending ++ ts) (sym (reverse-append (x ∷ []) (filter formats tags)))
    go false = append-nil (pending ++ reverse (filter formats tags))

pub did-wait : (rules : Rules) (old new : Machine) (tag : PlainElem) → IsMachine rules old → new.builder ≡ old.builder → new.opened.items ≡ old.opened.items
    → map pending_tag new.pending.items ≡ map pending_tag old.pending.items ++ filter (λ tag. is_formatting tag.name) (tag ∷ []) → new.rest ≡ old.rest
    → Did rules old new (waiting tag (state_of old))
did-wait rules old new tag h builder opens pends rests =
    did-changed rules old new (map pending_tag old.pending.items ++ filter formats (tag ∷ [])) old.rest h builder opens pends rests

-- and then more of them
pub did-carry_more : (rules : Rules) (old first mid new : Machine) (n m : ℕ) (o : Open) → n ≡ suc m → IsMachine rules old
    → old.opened.items ≡ first.opened.items ++ (o ∷ []) → Did rules old first (leaving 1 (state_of old))
    → Did rules first mid (carrying_out m (state_of first)) → Did rules mid new (waiting (tag_of o) (state_of mid))
    → Did rules old new (carrying_out n (state_of old))
did-carry_more rules old first mid new n m o e h opens p q r =
    let three = did-next rules old mid new (both_runs (leaving 1 (state_of old)) (carrying_out m (leaving 1 (state_of old)).state)) (waiting (tag_of o))
    (did-next rules old first mid (leaving 1 (state_of old)) (carrying_out m) p q) r in
    subst (λ k. Did rules old new (carrying_out k (state_of old))) (sym e)
    (did-as rules old new _ (carrying_out (suc m) (state_of old)) three
    (same_state (tags_of old.opened.items) (map pending_tag old.pending.items) old.rest (tags_of first.opened.items) tags)
    (same_written (tags_of old.opened.items) (tags_of first.opened.items) tags))
  where
    tags : tags_of old.opened.items ≡ tag_of o ∷ tags_of first.opened.items
    tags = (innermost rules old.opened.items first.opened.items o h.known opens).tags

    same_state : (all pending : List PlainElem) (rest : ℕ) (rest_of : List PlainElem) → all ≡ tag_of o ∷ rest_of
        → (waiting (tag_of o) (carrying_out m (leaving 1 (state all pending rest)).state).state).state ≡ (carrying_out (suc m) (state all pending rest)).state
    same_state all pending rest rest_of f = rw f (ap (λ ps. state (drop m rest_of) ps rest) (waits_last pending (take m rest_of) (tag_of o)))

    same_written : (all rest_of : List PlainElem) → all ≡ tag_of o ∷ rest_of
        → (map (λ (tag : PlainElem). end_token tag.name) (take 1 all) ++ map (λ (tag : PlainElem). end_token tag.name) (take m (drop 1 all))) ++ []
        ≡ map (λ tag. end_token tag.name) (take (suc m) all)
    same_written all rest_of f = rw f (append-nil (end_token (tag_of o).name ∷ map (λ (tag : PlainElem). end_token tag.name) (take m rest_of)))

pub did-carry_none : (rules : Rules) (m : Machine) (n : ℕ) → n ≡ 0 → IsMachine rules m → Did rules m m (carrying_out n (state_of m))
did-carry_none rules m n e h =
    subst (λ k. Did rules m m (carrying_out k (state_of m))) (sym e)
    (did-as rules m m (changed_to (state_of m)) (carrying_out 0 (state_of m)) (did-nothing rules m h)
    (ap (λ ps. state (tags_of m.opened.items) ps m.rest) (sym (append-nil (map pending_tag m.pending.items)))) refl)

-- the newest of all are the newest of all but the oldest, where there are too many
pub newest_of_rest : (xs ys : List Pending) (x : List Pending) → xs ≡ x ++ ys → length x ≤ 1 → 128 < length xs
    → drop (length ys - 128) ys ≡ drop (length xs - 128) xs
newest_of_rest xs ys [] e l h = ap (λ (zs : List Pending). drop (length zs - 128) zs) (sym e)
newest_of_rest xs ys (z ∷ []) e l h =
    let n : length (z ∷ ys) - 128 ≡ suc (length ys - 128) = (let m = ap length e in omega (arith, h, m)) in
    sym (ap (λ (zs : List Pending). drop (length zs - 128) zs) e ∙ ap (λ k. drop k (z ∷ ys)) n)
newest_of_rest xs ys (z ∷ w ∷ more) e l h = absurd (omega (arith, l))

-- what waits is settled
pub did-settle : (rules : Rules) (old new : Machine) (shut : Bool) → IsMachine rules old → new.builder ≡ old.builder → new.opened.items ≡ old.opened.items
    → map pending_tag new.pending.items ≡ (if shut then [] else newest (map pending_tag old.pending.items)) → new.rest ≡ old.rest
    → Did rules old new (settled shut (state_of old))
did-settle rules old new shut h builder opens pends rests =
    did-changed rules old new (if shut then [] else newest (map pending_tag old.pending.items)) old.rest h builder opens pends rests

pub nothing_waits : (shut : Bool) (new old : List Pending) → shut ≡ true → new ≡ [] → map pending_tag new ≡ (if shut then [] else newest (map pending_tag old))
nothing_waits shut new old s e = rw (s, e) refl

pub newest_wait : (shut : Bool) (new old : List Pending) → shut ≡ false → new ≡ drop (length old - 128) old
    → map pending_tag new ≡ (if shut then [] else newest (map pending_tag old))
newest_wait shut new old s e =
    rw s (ap (map pending_tag) e ∙ sym (drop-map pending_tag (length old - 128) old)
    ∙ ap (λ n. drop (n - 128) (map pending_tag old)) (sym (length-map old pending_tag)))

-- open elements in front and behind
tags_under-append : (outer : List PlainElem) (front back : List Open) → tags_under outer (front ++ back) ≡ tags_under (tags_under outer front) back
tags_under-append outer [] back = refl
tags_under-append outer (o ∷ front) back = tags_under-append (tag_of o ∷ outer) front back

tags_under-reverse : (outer : List PlainElem) (os : List Open) → tags_under outer os ≡ reverse (map tag_of os) ++ outer
tags_under-reverse outer [] = refl
tags_under-reverse outer (o ∷ os) =
    tags_under-reverse (tag_of o ∷ outer) os
    ∙ sym (append_assoc (reverse (map tag_of os)) (tag_of o ∷ []) outer)
    ∙ ap (λ es. es ++ outer) (sym (reverse-append (tag_of o ∷ []) (map tag_of os)))

pub tags_cut : (os : List Open) (n : ℕ) → n ≤ length os
    → tags_of os ≡ reverse (map tag_of (drop (length os - n) os)) ++ tags_of (take (length os - n) os)
tags_cut os n h =
    ap tags_of (sym (take-append-drop (length os - n) os)) ∙ tags_under-append [] (take (length os - n) os) (drop (length os - n) os)
    ∙ tags_under-reverse (tags_of (take (length os - n) os)) (drop (length os - n) os)

pub length-cut : (os : List Open) (n : ℕ) → n ≤ length os → length (reverse (map tag_of (drop (length os - n) os))) ≡ n
length-cut os n h =
    length-reverse (map tag_of (drop (length os - n) os)) ∙ length-map (drop (length os - n) os) tag_of
    ∙ (let l = length-drop (length os - n) os in omega (arith, l, h))

-- a cell or a caption among them
or_nothing : (b : Bool) → b ≡ (b || false)
or_nothing true = refl
or_nothing false = refl

any-append : {X : Type 0} (test : X → Bool) (xs ys : List X) → list_any test (xs ++ ys) ≡ list_any test ys || list_any test xs
any-append test [] ys = or_nothing (list_any test ys)
any-append test (x ∷ xs) ys = rw (any-append test xs ys) (go (test x) (list_any test ys) (list_any test xs))
  where
    go : (a b c : Bool) → (a || (b || c)) ≡ (b || (a || c))
    go true true c = refl
    go true false c = refl
    go false b c = refl

shut_among : (os : List Open) → list_any (λ tag. is_shut tag.name) (reverse (map tag_of os)) ≡ list_any (λ o. is_shut o.name) os
shut_among [] = refl
shut_among (o ∷ os) =
    ap (list_any (λ (tag : PlainElem). is_shut tag.name)) (reverse-append (tag_of o ∷ []) (map tag_of os))
    ∙ any-append (λ (tag : PlainElem). is_shut tag.name) (reverse (map tag_of os)) (tag_of o ∷ [])
    ∙ go (is_shut o.name) (shut_among os)
  where
    go : (b : Bool) → list_any (λ tag. is_shut tag.name) (reverse (map tag_of os)) ≡ list_any (λ o. is_shut o.name) os
        → ((b || false) || list_any (λ (tag : PlainElem). is_shut tag.name) (reverse (map tag_of os))) ≡ (b || list_any (λ (o : Open). is_shut o.name) os)
    go true h = refl
    go false h = h

pub shut_part : (os : List Open) (n : ℕ) → n ≤ length os
    → list_any (λ o. is_shut o.name) (drop (length os - n) os) ≡ list_any (λ tag. is_shut tag.name) (take n (tags_of os))
shut_part os n h =
    sym (ap (λ ts. list_any (λ (tag : PlainElem). is_shut tag.name) (take n ts)) (tags_cut os n h)
    ∙ ap (list_any (λ (tag : PlainElem). is_shut tag.name)) (take_at (reverse (map tag_of (drop (length os - n) os))) (tags_of (take (length os - n) os)) n (length-cut os n h))
    ∙ shut_among (drop (length os - n) os))

-- what was asked of the innermost elements
pub asked : (os ds inner : List Open) (n : ℕ) (r : Bool) → n ≤ length os → ds ≡ os → inner ≡ drop (length ds - n) ds → r ≡ list_any (λ o. is_shut o.name) inner
    → r ≡ list_any (λ tag. is_shut tag.name) (take n (tags_of os))
asked os ds inner n r h d i a =
    a ∙ ap (list_any (λ (o : Open). is_shut o.name)) (i ∙ ap (λ (xs : List Open). drop (length xs - n) xs) d) ∙ shut_part os n h

-- closing, as the definition says it
pub did-close : (rules : Rules) (old mid new : Machine) (n : ℕ) (shut : Bool) → shut ≡ list_any (λ tag. is_shut tag.name) (take n (tags_of old.opened.items))
    → Did rules old mid (carrying_out n (state_of old)) → Did rules mid new (settled shut (state_of mid)) → Did rules old new (close_inner n n (state_of old))
did-close rules old mid new n shut e p q =
    did-as rules old new (both_runs (carrying_out n (state_of old)) (settled shut (carrying_out n (state_of old)).state)) (close_inner n n (state_of old))
    (did-next rules old mid new (carrying_out n (state_of old)) (settled shut) p q)
    (ap (λ b. state (drop n (tags_of old.opened.items))
    (if b then [] else newest (map pending_tag old.pending.items ++ reverse (filter formats (take n (tags_of old.opened.items))))) old.rest) e)
    (append-nil (map (λ (tag : PlainElem). end_token tag.name) (take n (tags_of old.opened.items))))

drop_one : {X : Type 0} (n : ℕ) (xs : List X) → drop 1 (drop n xs) ≡ drop (suc n) xs
drop_one zero xs = refl
drop_one (suc n) [] = refl
drop_one (suc n) (x ∷ xs) = drop_one n xs

take_one : {X Y : Type 0} (f : X → Y) (n : ℕ) (xs : List X) → map f (take n xs) ++ map f (take 1 (drop n xs)) ≡ map f (take (suc n) xs)
take_one f zero xs = refl
take_one f (suc n) [] = refl
take_one f (suc n) (x ∷ xs) = ap (λ ys. f x ∷ ys) (take_one f n xs)

pub did-close_to : (rules : Rules) (old mid last new : Machine) (n : ℕ) (shut : Bool) → shut ≡ list_any (λ tag. is_shut tag.name) (take (suc n) (tags_of old.opened.items))
    → Did rules old mid (carrying_out n (state_of old)) → Did rules mid last (leaving 1 (state_of mid)) → Did rules last new (settled shut (state_of last))
    → Did rules old new (close_inner (suc n) n (state_of old))
did-close_to rules old mid last new n shut e p q r =
    did-as rules old new
    (both_runs (both_runs (carrying_out n (state_of old)) (leaving 1 (carrying_out n (state_of old)).state)) (settled shut (leaving 1 (carrying_out n (state_of old)).state).state))
    (close_inner (suc n) n (state_of old))
    (did-next rules old last new (both_runs (carrying_out n (state_of old)) (leaving 1 (carrying_out n (state_of old)).state)) (settled shut)
    (did-next rules old mid last (carrying_out n (state_of old)) (leaving 1) p q) r)
    (ap₂ (λ (es : List PlainElem) (b : Bool). state es
    (if b then [] else newest (map pending_tag old.pending.items ++ reverse (filter formats (take n (tags_of old.opened.items))))) old.rest)
    (drop_one n (tags_of old.opened.items)) e)
    (append-nil (map (λ (tag : PlainElem). end_token tag.name) (take n (tags_of old.opened.items)) ++ map (λ (tag : PlainElem). end_token tag.name) (take 1 (drop n (tags_of old.opened.items))))
    ∙ take_one (λ (tag : PlainElem). end_token tag.name) n (tags_of old.opened.items))

-- as many are open after what leaves so many
pub left_open : (rules : Rules) (old new : Machine) (run : Run) (n : ℕ) → Did rules old new run → run.state.opened ≡ drop n (tags_of old.opened.items)
    → length new.opened.items ≡ length old.opened.items - n
left_open rules old new run n d e =
    let same : tags_of new.opened.items ≡ drop n (tags_of old.opened.items) = ap (λ (s : State). s.opened) d.state ∙ e in
    omega (arith, ap length same, length-drop n (tags_of old.opened.items), length-under [] new.opened.items, length-under [] old.opened.items)
  where
    length-under : (outer : List PlainElem) (os : List Open) → length (tags_under outer os) ≡ length outer + length os
    length-under outer [] = omega arith
    length-under outer (o ∷ os) = omega (arith, length-under (tag_of o ∷ outer) os)

-- writing a text
pub did-text : (rules : Rules) (old new : Machine) (text : List ℕ) → IsMachine rules old → new.opened.items ≡ old.opened.items
    → new.pending.items ≡ old.pending.items → new.rest ≡ old.rest → opened_of new.builder ≡ opened_of old.builder
    → written_of new.builder ≡ joined (written_of old.builder ++ (text_token text ∷ [])) → Did rules old new (writing (text_token text ∷ []) (state_of old))
did-text rules old new text h opens pends rests same written = record {
  machine = still_machine rules old new h opens same;
  state = state_same (tags_of new.opened.items) (tags_of old.opened.items) (map pending_tag new.pending.items) (map pending_tag old.pending.items) new.rest old.rest
      (ap tags_of opens) (ap (map pending_tag) pends) rests;
  written = λ more. rw written (joined-joined (written_of old.builder ++ (text_token text ∷ [])) more ∙ ap joined (append_assoc (written_of old.builder) (text_token text ∷ []) more));
}

-- an element that is opened and closed in the builder alone
pub still_open : (old entered new : List Element) (e : Element) → entered ≡ old ++ (e ∷ []) → entered ≡ new ++ (last_of entered ∷ []) → new ≡ old
still_open old entered new e p q = (same_from_push new old (last_of entered) e (sym q ∙ p)).0

pub did-at_once : (rules : Rules) (old first mid new : Machine) (e : PlainElem) → IsMachine rules old → mid.opened.items ≡ old.opened.items
    → mid.pending.items ≡ old.pending.items → mid.rest ≡ old.rest
    → opened_of first.builder ≡ opened_of old.builder ++ (e.name ∷ []) → written_of first.builder ≡ written_of old.builder ++ (opening_of e ∷ [])
    → opened_of first.builder ≡ opened_of mid.builder ++ (last_of (opened_of first.builder) ∷ [])
    → written_of mid.builder ≡ written_of first.builder ++ closing_of (last_of (opened_of first.builder))
    → Did rules mid new (settled (is_shut e.name) (state_of mid)) → Did rules old new (enter_and_close e (state_of old))
did-at_once rules old first mid new e h opens pends rests entered opening left closing q =
    let last : last_of (opened_of first.builder) ≡ e.name = ap last_of entered ∙ last_of-more (opened_of old.builder) e.name in
    let p = did-exactly rules old mid (writing (opening_of e ∷ closing_of e.name) (state_of old))
    (still_machine rules old mid h opens (still_open (opened_of old.builder) (opened_of first.builder) (opened_of mid.builder) e.name entered left))
    (state_same (tags_of mid.opened.items) (tags_of old.opened.items) (map pending_tag mid.pending.items) (map pending_tag old.pending.items) mid.rest old.rest
    (ap tags_of opens) (ap (map pending_tag) pends) rests)
    (closing ∙ ap₂ (λ (ts us : List Token). ts ++ us) opening (ap closing_of last) ∙ append_assoc (written_of old.builder) (opening_of e ∷ []) (closing_of e.name)) in
    did-as rules old new
    (both_runs (writing (opening_of e ∷ closing_of e.name) (state_of old)) (settled (is_shut e.name) (state_of old))) (enter_and_close e (state_of old))
    (did-next rules old mid new (writing (opening_of e ∷ closing_of e.name) (state_of old)) (settled (is_shut e.name)) p q)
    (ap₂ (λ (b : Bool) (ps : List PlainElem). state (tags_of old.opened.items) (if b then [] else newest ps) old.rest)
    (or_nothing (is_shut e.name)) (sym (append-nil (map pending_tag old.pending.items))))
    (append-nil (opening_of e ∷ closing_of e.name))
