-- The turns of those that wait, in the program.
use Rattle.std.proofs.Common.{arith, ◌≡◌, ℕ, suc, ◌+◌, ◌-◌, ◌≤◌, ◌<◌, List, [], ◌∷◌, ◌++◌, length, map, refl, ap, sym, subst, ◌∙◌, Bool, true, false, if◌then◌else◌, nat_le, le-leb, append_assoc, append-nil}
use Rattle.std.specs.List.{list_any, list_all}
use Rattle.pur_names.specs.declared.elements.Element.{Element}
use Rattle.pur_settings.specs.Rules.{Rules, permits_element}
use Rattle.pur_tree.specs.Building.{written_of}
use Rattle.pur_tree.specs.Nodes.{PlainElem, plain_elem}
use Rattle.pur_tree.specs.Tokens.{start_token, joined}
use Rattle.pur_attrlist.specs.Attributes.{Attribute}
use Rattle.pur_wellform.specs.declared.machine.Machine.{Machine}
use Rattle.pur_wellform.specs.declared.machine.Pending.{Pending}
use Rattle.pur_wellform.specs.Closing.{State, Run, names, kept, is_formatting, both_runs, changed_to, enter, enter_again, cost, fits_again, turn_of, turns_of, reopen}
use Rattle.pur_wellform.specs.Invariants.{Kept, is_pendable}
use Rattle.pur_wellform.specs.Private.Opens.{tags_of, names_of}
use Rattle.pur_wellform.specs.Private.Machines.{pending_tag, state_of, IsMachine, Did, first_turn, so_many_turns}
use Rattle.pur_wellform.proofs.TableFacts.{left_of, right_of, neither_left, neither_right}
use Rattle.pur_wellform.proofs.ListFacts.{nat_le_false}
use Rattle.std.proofs.lemmas.List.{length-map}
use Rattle.pur_wellform.proofs.RunFacts.{good-turn}
use Rattle.pur_wellform.proofs.MachineFacts.{state, state_same, did-as, did-next, did-changed, did-nothing, map-more}

-- an element at its turn, in each case
abbrev pub paying : PlainElem → State → Run
paying tag s = record {
  state = state (kept tag ∷ s.opened) s.pending (s.rest - cost tag);
  written = start_token tag ∷ [];
  lost = [];
  paid = cost tag;
}

turn_stays : (rules : Rules) (limit : ℕ) (tag : PlainElem) (s : State) → fits_again rules limit (names s.opened) tag.name ≡ false
    → turn_of rules limit tag s ≡ changed_to (state s.opened (s.pending ++ (tag ∷ [])) s.rest)
turn_stays rules limit tag s f = rw f refl

turn_forgets : (rules : Rules) (limit : ℕ) (tag : PlainElem) (s : State) → fits_again rules limit (names s.opened) tag.name ≡ true → s.rest < cost tag
    → turn_of rules limit tag s ≡ changed_to s
turn_forgets rules limit tag s f poor = rw (f, nat_le_false (cost tag) s.rest poor) refl

turn_enters : (rules : Rules) (limit : ℕ) (tag : PlainElem) (s : State) → fits_again rules limit (names s.opened) tag.name ≡ true → cost tag ≤ s.rest
    → turn_of rules limit tag s ≡ paying tag s
turn_enters rules limit tag s f rich = rw (f, le-leb (cost tag) s.rest rich) refl

pub did-stays : (rules : Rules) (old new : Machine) (limit : ℕ) (p : Pending) → IsMachine rules old
    → fits_again rules limit (names_of old.opened.items) p.name ≡ false → new.builder ≡ old.builder → new.opened.items ≡ old.opened.items
    → new.pending.items ≡ old.pending.items ++ (p ∷ []) → new.rest ≡ old.rest → Did rules old new (turn_of rules limit (pending_tag p) (state_of old))
did-stays rules old new limit p h f builder opens pends rests =
    subst (Did rules old new) (sym (turn_stays rules limit (pending_tag p) (state_of old) f))
    (did-changed rules old new (map pending_tag old.pending.items ++ (pending_tag p ∷ [])) old.rest h builder opens
    (ap (map pending_tag) pends ∙ map-more pending_tag old.pending.items p) rests)

pub did-forgets : (rules : Rules) (old : Machine) (limit : ℕ) (p : Pending) → IsMachine rules old
    → fits_again rules limit (names_of old.opened.items) p.name ≡ true → old.rest < cost (pending_tag p)
    → Did rules old old (turn_of rules limit (pending_tag p) (state_of old))
did-forgets rules old limit p h f poor =
    subst (Did rules old old) (sym (turn_forgets rules limit (pending_tag p) (state_of old) f poor)) (did-nothing rules old h)

pub did-enters : (rules : Rules) (old mid new : Machine) (limit : ℕ) (p : Pending) (tag : PlainElem) → tag ≡ pending_tag p
    → fits_again rules limit (names_of old.opened.items) p.name ≡ true → cost (pending_tag p) ≤ old.rest → mid.builder ≡ old.builder
    → mid.opened.items ≡ old.opened.items → mid.pending.items ≡ old.pending.items → mid.rest ≡ old.rest - cost (pending_tag p)
    → Did rules mid new (enter tag (state_of mid)) → Did rules old new (turn_of rules limit (pending_tag p) (state_of old))
did-enters rules old mid new limit p tag t f rich builder opens pends rests d =
    let e = subst (λ x. Did rules mid new (enter x (state_of mid))) t d in
    subst (Did rules old new) (sym (turn_enters rules limit (pending_tag p) (state_of old) f rich))
    (record {
      machine = e.machine;
      state = e.state ∙ state_same (kept (pending_tag p) ∷ tags_of mid.opened.items) (kept (pending_tag p) ∷ tags_of old.opened.items) (map pending_tag mid.pending.items)
          (map pending_tag old.pending.items) mid.rest (old.rest - cost (pending_tag p))
          (ap (λ os. kept (pending_tag p) ∷ tags_of os) opens) (ap (map pending_tag) pends) rests;
      written = λ more. e.written more ∙ ap (λ b. joined (written_of b ++ (start_token (pending_tag p) ∷ more))) builder;
    })

-- all attributes of what waits are kept
pub kept_whole : (rules : Rules) (name : Element) (attrs copy : List Attribute) → is_pendable rules (plain_elem name attrs) ≡ true → copy ≡ attrs
    → attrs ≡ (kept (plain_elem name copy)).attrs
kept_whole rules name attrs copy p e = rw (e, right_of (permits_element rules name) (is_formatting name) p) refl

-- the first of those that wait
pub first_pendable : (rules : Rules) (m : Machine) (p : Pending) (more : List Pending) → Kept rules (state_of m) → m.pending.items ≡ p ∷ more
    → is_pendable rules (pending_tag p) ≡ true
first_pendable rules m p more k e =
    left_of (is_pendable rules (pending_tag p)) (list_all (is_pendable rules) (map pending_tag more))
    (sym (ap (λ xs. list_all (is_pendable rules) (map pending_tag xs)) e) ∙ k.pending)

pub did-first : (rules : Rules) (old mid new : Machine) (limit : ℕ) (p : Pending) → old.pending.items ≡ p ∷ mid.pending.items → mid.builder ≡ old.builder
    → mid.opened.items ≡ old.opened.items → mid.rest ≡ old.rest → Did rules mid new (turn_of rules limit (pending_tag p) (state_of mid))
    → Did rules old new (first_turn rules limit (state_of old).pending (state_of old))
did-first rules old mid new limit p pends builder opens rests d =
    subst (λ ps. Did rules old new (first_turn rules limit ps (state_of old))) (sym (ap (map pending_tag) pends))
    (subst (λ s. Did rules old new (turn_of rules limit (pending_tag p) s))
    (state_same (tags_of mid.opened.items) (tags_of old.opened.items) (map pending_tag mid.pending.items) (map pending_tag mid.pending.items) mid.rest old.rest (ap tags_of opens) refl rests)
    (record {
      machine = d.machine;
      state = d.state;
      written = λ more. d.written more ∙ ap (λ b. joined (written_of b ++ ((turn_of rules limit (pending_tag p) (state_of mid)).written ++ more))) builder;
    }))

pub did-none : (rules : Rules) (old new : Machine) (limit : ℕ) → IsMachine rules old → old.pending.items ≡ [] → new.pending.items ≡ [] → new.builder ≡ old.builder
    → new.opened.items ≡ old.opened.items → new.rest ≡ old.rest → Did rules old new (first_turn rules limit (state_of old).pending (state_of old))
did-none rules old new limit h empty left builder opens rests =
    subst (λ ps. Did rules old new (first_turn rules limit ps (state_of old))) (sym (ap (map pending_tag) empty))
    (did-changed rules old new (map pending_tag old.pending.items) old.rest h builder opens (ap (map pending_tag) (left ∙ sym empty)) rests)

-- what each turn keeps
kept-first : (rules : Rules) (limit : ℕ) (tags : List PlainElem) (s : State) → limit ≤ 128 → Kept rules s → s.pending ≡ tags
    → Kept rules (first_turn rules limit tags s).state
kept-first rules limit [] s l k e = k
kept-first rules limit (tag ∷ tags) s l k e =
    let pends : list_all (is_pendable rules) (tag ∷ tags) ≡ true = subst (λ ps. list_all (is_pendable rules) ps ≡ true) e k.pending in
    let few : length (tag ∷ tags) ≤ 128 = subst (λ ps. length ps ≤ 128) e k.few in
    (good-turn rules limit (λ es. Unit {0}) tag (state s.opened tags s.rest) l (λ es e f fits t. tt)
    (record { opened = k.opened; pending = right_of (is_pendable rules tag) (list_all (is_pendable rules) tags) pends; few = omega (arith, few) })
    (left_of (is_pendable rules tag) (list_all (is_pendable rules) tags) pends) (omega (arith, few)) tt).good.kept

pub kept_turn : (rules : Rules) (old new : Machine) (limit : ℕ) → limit ≤ 128 → Kept rules (state_of old)
    → Did rules old new (first_turn rules limit (state_of old).pending (state_of old)) → Kept rules (state_of new)
kept_turn rules old new limit l k d =
    subst (Kept rules) (sym d.state) (kept-first rules limit (state_of old).pending (state_of old) l k refl)

pub did-turns : (rules : Rules) (old mid new : Machine) (limit n m : ℕ) → n ≡ suc m
    → Did rules old mid (first_turn rules limit (state_of old).pending (state_of old)) → Did rules mid new (so_many_turns rules limit m (state_of mid))
    → Did rules old new (so_many_turns rules limit n (state_of old))
did-turns rules old mid new limit n m e p q =
    subst (λ k. Did rules old new (so_many_turns rules limit k (state_of old))) (sym e)
    (did-next rules old mid new (first_turn rules limit (state_of old).pending (state_of old)) (so_many_turns rules limit m) p q)

pub did-no_turns : (rules : Rules) (m : Machine) (limit n : ℕ) → n ≡ 0 → IsMachine rules m → Did rules m m (so_many_turns rules limit n (state_of m))
did-no_turns rules m limit n e h = subst (λ k. Did rules m m (so_many_turns rules limit k (state_of m))) (sym e) (did-nothing rules m h)

-- turns in which those that go on waiting come last are those of the definition
turns_rotate : (rules : Rules) (limit : ℕ) (tags stay opened : List PlainElem) (rest : ℕ)
    → so_many_turns rules limit (length tags) (state opened (tags ++ stay) rest) ≡ turns_of rules limit tags (state opened stay rest)
turns_rotate rules limit [] stay opened rest = refl
turns_rotate rules limit (tag ∷ tags) stay opened rest = go (fits_again rules limit (names opened) tag.name) (turns_rotate rules limit tags)
  where
    pay : (b : Bool)
        → ((stay opened : List PlainElem) (rest : ℕ)
        → so_many_turns rules limit (length tags) (state opened (tags ++ stay) rest) ≡ turns_of rules limit tags (state opened stay rest))
        → both_runs (if b then paying tag (state opened (tags ++ stay) rest) else changed_to (state opened (tags ++ stay) rest))
        (so_many_turns rules limit (length tags) (if b then paying tag (state opened (tags ++ stay) rest) else changed_to (state opened (tags ++ stay) rest)).state)
        ≡ both_runs (if b then paying tag (state opened stay rest) else changed_to (state opened stay rest))
        (turns_of rules limit tags (if b then paying tag (state opened stay rest) else changed_to (state opened stay rest)).state)
    pay true more = ap (λ (r : Run). record { state = r.state; written = start_token tag ∷ r.written; lost = r.lost; paid = cost tag + r.paid })
        (more stay (kept tag ∷ opened) (rest - cost tag))
    pay false more = ap (λ (r : Run). record { state = r.state; written = r.written; lost = r.lost; paid = 0 + r.paid }) (more stay opened rest)

    go : (b : Bool)
        → ((stay opened : List PlainElem) (rest : ℕ)
        → so_many_turns rules limit (length tags) (state opened (tags ++ stay) rest) ≡ turns_of rules limit tags (state opened stay rest))
        → both_runs (if b then enter_again tag (state opened (tags ++ stay) rest) else changed_to (state opened ((tags ++ stay) ++ (tag ∷ [])) rest))
        (so_many_turns rules limit (length tags) (if b then enter_again tag (state opened (tags ++ stay) rest) else changed_to (state opened ((tags ++ stay) ++ (tag ∷ [])) rest)).state)
        ≡ both_runs (if b then enter_again tag (state opened stay rest) else changed_to (state opened (stay ++ (tag ∷ [])) rest))
        (turns_of rules limit tags (if b then enter_again tag (state opened stay rest) else changed_to (state opened (stay ++ (tag ∷ [])) rest)).state)
    go true more = pay (nat_le (cost tag) rest) more
    go false more = ap (λ (r : Run). record { state = r.state; written = r.written; lost = r.lost; paid = 0 + r.paid })
        (ap (λ ps. so_many_turns rules limit (length tags) (state opened ps rest)) (append_assoc tags stay (tag ∷ []))
        ∙ more (stay ++ (tag ∷ [])) opened rest)

pub did-reopen : (rules : Rules) (old new : Machine) (limit n : ℕ) → n ≡ length old.pending.items
    → Did rules old new (so_many_turns rules limit n (state_of old)) → Did rules old new (reopen rules limit (state_of old))
did-reopen rules old new limit n e d =
    let ps = map pending_tag old.pending.items in
    subst (Did rules old new)
    (ap (λ k. so_many_turns rules limit k (state_of old)) (e ∙ sym (length-map old.pending.items pending_tag))
    ∙ ap (λ qs. so_many_turns rules limit (length (map pending_tag old.pending.items)) (state (tags_of old.opened.items) qs old.rest)) (sym (append-nil (map pending_tag old.pending.items)))
    ∙ turns_rotate rules limit (map pending_tag old.pending.items) [] (tags_of old.opened.items) old.rest) d

-- where none fits, all wait on
record Waits (run : Run) (s : State) : Type 0 where
  state : run.state ≡ s
  written : run.written ≡ []

turns_wait : (rules : Rules) (limit : ℕ) (tags stay opened : List PlainElem) (rest : ℕ)
    → list_any (λ tag. fits_again rules limit (names opened) tag.name) tags ≡ false
    → Waits (turns_of rules limit tags (state opened stay rest)) (state opened (stay ++ tags) rest)
turns_wait rules limit [] stay opened rest h = record { state = ap (λ ps. state opened ps rest) (sym (append-nil stay)); written = refl }
turns_wait rules limit (tag ∷ tags) stay opened rest h =
    go (fits_again rules limit (names opened) tag.name) (neither_left (fits_again rules limit (names opened) tag.name) (list_any (λ tag. fits_again rules limit (names opened) tag.name) tags) h)
    (turns_wait rules limit tags (stay ++ (tag ∷ [])) opened rest
    (neither_right (fits_again rules limit (names opened) tag.name) (list_any (λ tag. fits_again rules limit (names opened) tag.name) tags) h))
  where
    go : (b : Bool) → b ≡ false → Waits (turns_of rules limit tags (state opened (stay ++ (tag ∷ [])) rest)) (state opened ((stay ++ (tag ∷ [])) ++ tags) rest)
        → Waits (both_runs (if b then enter_again tag (state opened stay rest) else changed_to (state opened (stay ++ (tag ∷ [])) rest))
        (turns_of rules limit tags (if b then enter_again tag (state opened stay rest) else changed_to (state opened (stay ++ (tag ∷ [])) rest)).state))
        (state opened (stay ++ (tag ∷ tags)) rest)
    go true e more = absurd (cc)
    go false e more = record {
      state = more.state ∙ ap (λ ps. state opened ps rest) (append_assoc stay (tag ∷ []) tags);
      written = more.written;
    }

pub did-wait_on : (rules : Rules) (m : Machine) (limit : ℕ) → IsMachine rules m
    → list_any (λ tag. fits_again rules limit (names_of m.opened.items) tag.name) (map pending_tag m.pending.items) ≡ false
    → Did rules m m (reopen rules limit (state_of m))
did-wait_on rules m limit h none =
    let w = turns_wait rules limit (map pending_tag m.pending.items) [] (tags_of m.opened.items) m.rest none in
    did-as rules m m (changed_to (state_of m)) (reopen rules limit (state_of m)) (did-nothing rules m h) (sym w.state) (sym w.written)
