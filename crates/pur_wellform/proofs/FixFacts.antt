-- Closing leaves as it is what stands where it may.
use Rattle.std.proofs.Common.{◌≡◌, ℕ, List, [], ◌∷◌, ◌++◌, map, refl, ap, ap₂, sym, subst, ◌∙◌, Bool, true, false, not, ◌&&◌, ◌||◌, if◌then◌else◌, le-leb, append_assoc, append-nil, cond}
use Rattle.std.proofs.lemmas.List.{map-append}
use Rattle.pur_names.specs.Elements.{same_element}
use Rattle.pur_names.specs.declared.elements.Element.{Element}
use Rattle.pur_names.proofs.ElementLaws.{element_named-name, same_element-Decides}
use Rattle.pur_modules.specs.declared.kinds.Child.TheVariants.{Text, Elem}
use Rattle.pur_modules.specs.Contents.{is_empty_element}
use Rattle.pur_modules.specs.Wrappers.{is_running}
use Rattle.pur_tokens.specs.Tokens as read
use Rattle.pur_settings.specs.Rules.{Rules}
use Rattle.pur_tree.specs.Nodes.{PlainElem, plain_elem, Nodes, no_nodes, is_sound, is_joined, has_no_nodes}
use Rattle.pur_tree.specs.Tokens.{Token, text_token, start_token, end_token, empty_token, opening_of, closing_of, joined, tokens_of_nodes}
use Rattle.pur_tree.proofs.TokensLemmas.{joined-tree, none_of}
use Rattle.pur_wellform.specs.Search.{allows, level_in, direct, is_shut, at_place, place_of}
use Rattle.pur_text.specs.Characters.{is_blank}
use Rattle.pur_wellform.specs.Closing.{State, Run, names, kept, followed_by, start_step, reopen_before, reopen, put_tag, changed_to, enter_tag, for_element, end_step, step, steps, end_all, closed}
use Rattle.pur_wellform.specs.Standing.{MayOpen, MayHold, Stands, nothing_stands, text_stands, element_stands}
use Rattle.pur_wellform.specs.Laws.{as_read}
use Rattle.pur_wellform.proofs.TableFacts.{left_of, right_of}

-- nothing waits
abbrev idle : List PlainElem → ℕ → State
idle opened rest = record { opened = opened; pending = []; rest = rest }

-- tokens are read from one state to another, and write these
record Goes (rules : Rules) (before : State) (tags : List read.PlainToken) (tokens : List Token) (later : State) : Type 0 where
  state : (steps rules tags before).state ≡ later
  written : (steps rules tags before).written ≡ tokens

split_state : (rules : Rules) (xs ys : List read.PlainToken) (s : State) → (steps rules (xs ++ ys) s).state ≡ (steps rules ys (steps rules xs s).state).state
split_state rules [] ys s = refl
split_state rules (x ∷ xs) ys s = split_state rules xs ys (step rules x s).state

split_written : (rules : Rules) (xs ys : List read.PlainToken) (s : State)
    → (steps rules (xs ++ ys) s).written ≡ (steps rules xs s).written ++ (steps rules ys (steps rules xs s).state).written
split_written rules [] ys s = refl
split_written rules (x ∷ xs) ys s =
    ap (λ ts. (step rules x s).written ++ ts) (split_written rules xs ys (step rules x s).state)
    ∙ sym (append_assoc (step rules x s).written (steps rules xs (step rules x s).state).written (steps rules ys (steps rules xs (step rules x s).state).state).written)

goes-append : (rules : Rules) (s m l : State) (xs ys : List read.PlainToken) (ts us : List Token) → Goes rules s xs ts m → Goes rules m ys us l
    → Goes rules s (xs ++ ys) (ts ++ us) l
goes-append rules s m l xs ys ts us p q =
    let second = subst (λ x. Goes rules x ys us l) (sym p.state) q in
    record {
      state = split_state rules xs ys s ∙ second.state;
      written = split_written rules xs ys s ∙ ap (λ vs. vs ++ (steps rules ys (steps rules xs s).state).written) p.written ∙ ap (λ vs. ts ++ vs) second.written;
    }

goes-one : (rules : Rules) (s l : State) (x : read.PlainToken) (ts : List Token) → (step rules x s).state ≡ l → (step rules x s).written ≡ ts → Goes rules s (x ∷ []) ts l
goes-one rules s l x ts p q = record { state = p; written = append-nil (step rules x s).written ∙ q }

-- a tag in its place does nothing but open its element
place_direct : (rules : Rules) (es : List Element) (x : Element) → allows rules es (Elem x) ≡ true → place_of rules x es ≡ at_place 0 direct
place_direct rules [] x h = rw h refl
place_direct rules (e ∷ es) x h = rw h refl

idle_reopen : (rules : Rules) (x : Element) (S : List PlainElem) (rest : ℕ) → reopen_before rules x (idle S rest) ≡ changed_to (idle S rest)
idle_reopen rules x S rest = go (is_running rules.doctype (Elem x))
  where
    go : (b : Bool) → (if b then reopen rules 127 (idle S rest) else changed_to (idle S rest)) ≡ changed_to (idle S rest)
    go true = refl
    go false = refl

starts : (rules : Rules) (x : PlainElem) (at_once : Bool) (S : List PlainElem) (rest : ℕ) → MayOpen rules (names S) x.name
    → start_step rules x at_once (idle S rest) ≡ followed_by (changed_to (idle S rest)) (put_tag rules x at_once direct)
starts rules x at_once S rest m = rw (m.free, place_direct rules (names S) x.name m.letter, le-leb (level_in (x.name ∷ names S)) 128 m.low) refl

starts_state : (rules : Rules) (x : PlainElem) (at_once : Bool) (S : List PlainElem) (rest : ℕ) → MayOpen rules (names S) x.name
    → (start_step rules x at_once (idle S rest)).state ≡ (enter_tag x at_once (idle S rest)).state
starts_state rules x at_once S rest m =
    ap (λ (r : Run). r.state) (starts rules x at_once S rest m)
    ∙ ap (λ (r : Run). (enter_tag x at_once r.state).state) (idle_reopen rules x.name S rest)

starts_written : (rules : Rules) (x : PlainElem) (at_once : Bool) (S : List PlainElem) (rest : ℕ) → MayOpen rules (names S) x.name
    → (start_step rules x at_once (idle S rest)).written ≡ (enter_tag x at_once (idle S rest)).written
starts_written rules x at_once S rest m =
    ap (λ (r : Run). r.written) (starts rules x at_once S rest m)
    ∙ ap (λ (r : Run). r.written ++ (enter_tag x at_once r.state).written) (idle_reopen rules x.name S rest)

-- a text where it may stand
texts : (rules : Rules) (text : List ℕ) (S : List PlainElem) (rest : ℕ) → MayHold rules (names S) text
    → Goes rules (idle S rest) (read.text_token text ∷ []) (text_token text ∷ []) (idle S rest)
texts rules text S rest m = go (is_blank text) refl m.holds
  where
    go : (b : Bool) → is_blank text ≡ b → (b || allows rules (names S) Text) ≡ true → Goes rules (idle S rest) (read.text_token text ∷ []) (text_token text ∷ []) (idle S rest)
    go true b h = goes-one rules (idle S rest) (idle S rest) (read.text_token text) (text_token text ∷ []) (rw b refl) (rw b refl)
    go false b h = goes-one rules (idle S rest) (idle S rest) (read.text_token text) (text_token text ∷ []) (rw (b, h) refl) (rw (b, h) refl)

same_as_itself : (e : Element) → same_element e e ≡ true
same_as_itself e = (same_element-Decides e e).1 refl

-- nothing pends however the closed element is
abbrev none_pends : Bool → List PlainElem → ℕ → State
none_pends shut S rest = record { opened = S; pending = if shut then [] else []; rest = rest }

none_pend : (b : Bool) (S : List PlainElem) (rest : ℕ) → none_pends (b || false) S rest ≡ idle S rest
none_pend true S rest = refl
none_pend false S rest = refl

-- a tag is looked up to its element
pub named_start : (rules : Rules) (e : PlainElem) (s : State) → step rules (as_read (start_token e)) s ≡ start_step rules e false s
named_start rules e s = ap (λ found. for_element found (λ element. start_step rules (plain_elem element e.attrs) false) s) (element_named-name e.name)

pub named_empty : (rules : Rules) (e : PlainElem) (s : State) → step rules (as_read (empty_token e)) s ≡ start_step rules e true s
named_empty rules e s = ap (λ found. for_element found (λ element. start_step rules (plain_elem element e.attrs) true) s) (element_named-name e.name)

pub named_end : (rules : Rules) (e : Element) (s : State) → step rules (as_read (end_token e)) s ≡ end_step e s
named_end rules e s = ap (λ found. for_element found end_step s) (element_named-name e)

-- the end tag of the innermost element
ends : (rules : Rules) (e : PlainElem) (S : List PlainElem) (rest : ℕ)
    → Goes rules (idle (kept e ∷ S) rest) (as_read (end_token e.name) ∷ []) (end_token e.name ∷ []) (idle S rest)
ends rules e S rest =
    goes-one rules (idle (kept e ∷ S) rest) (idle S rest) (as_read (end_token e.name)) (end_token e.name ∷ [])
    (ap (λ (r : Run). r.state) (named_end rules e.name (idle (kept e ∷ S) rest))
    ∙ (let k : (end_step e.name (idle (kept e ∷ S) rest)).state ≡ idle S rest = rw (same_as_itself e.name) (none_pend (is_shut e.name) S rest) in k))
    (ap (λ (r : Run). r.written) (named_end rules e.name (idle (kept e ∷ S) rest))
    ∙ (let k : (end_step e.name (idle (kept e ∷ S) rest)).written ≡ end_token e.name ∷ [] = rw (same_as_itself e.name) refl in k))

opens : (rules : Rules) (e : PlainElem) (S : List PlainElem) (rest : ℕ) → MayOpen rules (names S) e.name → is_empty_element e.name ≡ false
    → Goes rules (idle S rest) (as_read (start_token e) ∷ []) (start_token e ∷ []) (idle (kept e ∷ S) rest)
opens rules e S rest m full =
    goes-one rules (idle S rest) (idle (kept e ∷ S) rest) (as_read (start_token e)) (start_token e ∷ [])
    (ap (λ (r : Run). r.state) (named_start rules e (idle S rest))
    ∙ starts_state rules e false S rest m ∙ (let k : (enter_tag e false (idle S rest)).state ≡ idle (kept e ∷ S) rest = rw full refl in k))
    (ap (λ (r : Run). r.written) (named_start rules e (idle S rest))
    ∙ starts_written rules e false S rest m ∙ (let k : (enter_tag e false (idle S rest)).written ≡ start_token e ∷ [] = rw full refl in k))

opens_empty : (rules : Rules) (e : PlainElem) (S : List PlainElem) (rest : ℕ) → MayOpen rules (names S) e.name → is_empty_element e.name ≡ true
    → Goes rules (idle S rest) (as_read (empty_token e) ∷ []) (empty_token e ∷ []) (idle S rest)
opens_empty rules e S rest m empty =
    goes-one rules (idle S rest) (idle S rest) (as_read (empty_token e)) (empty_token e ∷ [])
    (ap (λ (r : Run). r.state) (named_empty rules e (idle S rest)) ∙ starts_state rules e true S rest m ∙ none_pend (is_shut e.name) S rest)
    (ap (λ (r : Run). r.written) (named_empty rules e (idle S rest))
    ∙ starts_written rules e true S rest m ∙ (let k : opening_of e ∷ closing_of e.name ≡ empty_token e ∷ [] = rw empty refl in k))

-- the tokens that nodes are read from
abbrev reads : Nodes → List read.PlainToken
reads nodes = map as_read (tokens_of_nodes nodes)

passes : {rules : Rules} {es : List Element} {n : Nodes} → Stands rules es n → (S : List PlainElem) (rest : ℕ) → es ≡ names S → is_sound n ≡ true
    → Goes rules (idle S rest) (reads n) (tokens_of_nodes n) (idle S rest)
passes nothing_stands S rest same sound = record { state = refl; written = refl }
passes {rules} (text_stands {text} {rest = more} m r) S rest same sound =
    goes-append rules (idle S rest) (idle S rest) (idle S rest) (read.text_token text ∷ []) (reads more) (text_token text ∷ []) (tokens_of_nodes more)
    (texts rules text S rest (subst (λ es. MayHold rules es text) same m))
    (passes r S rest same (right_of _ _ sound))
passes {rules} (element_stands {element = e} {kids} {rest = more} m k r) S rest same sound =
    go (is_empty_element e.name) refl (passes k (kept e ∷ S) rest (ap (λ es. e.name ∷ es) same) (left_of (is_sound kids) (is_sound more) (right_of _ _ sound)))
    (passes r S rest same (right_of (is_sound kids) (is_sound more) (right_of _ _ sound)))
  where
    childless : is_empty_element e.name ≡ true → kids ≡ no_nodes
    childless q = none_of kids (let h = left_of (not (is_empty_element e.name) || has_no_nodes kids) (is_sound kids && is_sound more) sound in rw q at h)

    go : (b : Bool) → is_empty_element e.name ≡ b → Goes rules (idle (kept e ∷ S) rest) (reads kids) (tokens_of_nodes kids) (idle (kept e ∷ S) rest)
        → Goes rules (idle S rest) (reads more) (tokens_of_nodes more) (idle S rest)
        → Goes rules (idle S rest) (map as_read (cond b (empty_token e) (start_token e) ∷ (tokens_of_nodes kids ++ (cond b [] (end_token e.name ∷ []) ++ tokens_of_nodes more))))
        (cond b (empty_token e) (start_token e) ∷ (tokens_of_nodes kids ++ (cond b [] (end_token e.name ∷ []) ++ tokens_of_nodes more))) (idle S rest)
    go true q inner behind =
        subst (λ (n : Nodes). Goes rules (idle S rest) (map as_read (empty_token e ∷ (tokens_of_nodes n ++ tokens_of_nodes more))) (empty_token e ∷ (tokens_of_nodes n ++ tokens_of_nodes more)) (idle S rest)) (sym (childless q))
        (goes-append rules (idle S rest) (idle S rest) (idle S rest) (as_read (empty_token e) ∷ []) (reads more) (empty_token e ∷ []) (tokens_of_nodes more)
        (opens_empty rules e S rest (subst (λ es. MayOpen rules es e.name) same m) q) behind)
    go false q inner behind =
        subst (λ (ts : List read.PlainToken). Goes rules (idle S rest) (as_read (start_token e) ∷ ts) (start_token e ∷ (tokens_of_nodes kids ++ (end_token e.name ∷ tokens_of_nodes more))) (idle S rest))
        (sym (map-append as_read (tokens_of_nodes kids) (end_token e.name ∷ tokens_of_nodes more)))
        (goes-append rules (idle S rest) (idle (kept e ∷ S) rest) (idle S rest) (as_read (start_token e) ∷ []) (reads kids ++ (as_read (end_token e.name) ∷ reads more)) (start_token e ∷ []) (tokens_of_nodes kids ++ (end_token e.name ∷ tokens_of_nodes more))
        (opens rules e S rest (subst (λ es. MayOpen rules es e.name) same m) q)
        (goes-append rules (idle (kept e ∷ S) rest) (idle (kept e ∷ S) rest) (idle S rest) (reads kids) (as_read (end_token e.name) ∷ reads more) (tokens_of_nodes kids) (end_token e.name ∷ tokens_of_nodes more)
        inner
        (goes-append rules (idle (kept e ∷ S) rest) (idle S rest) (idle S rest) (as_read (end_token e.name) ∷ []) (reads more) (end_token e.name ∷ []) (tokens_of_nodes more) (ends rules e S rest) behind)))

pub closed-itself : (rules : Rules) (n : Nodes) → Stands rules [] n → is_sound n ≡ true → is_joined n ≡ true
    → closed rules (map as_read (tokens_of_nodes n)) ≡ tokens_of_nodes n
closed-itself rules n stands sound joins =
    let all = passes stands [] 1048576 refl sound in
    ap₂ (λ (ts : List Token) (s : State). joined (ts ++ (end_all s).written)) all.written all.state
    ∙ ap joined (append-nil (tokens_of_nodes n))
    ∙ joined-tree n (tokens_of_nodes n) joins sound refl
