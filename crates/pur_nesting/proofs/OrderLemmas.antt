-- A table whose children are in order stays as it is.
use Rattle.std.proofs.Common.{◌≡◌, ℕ, ◌+◌, ◌≤◌, ◌<◌, ◌⊎◌, inl, inr, List, [], ◌∷◌, Bool, true, false, ◌&&◌, ◌||◌, refl, ap, ◌∙◌, arith}
use Rattle.std.specs.Prelude.{if◌then◌else◌, nat_le}
use Rattle.std.proofs.lemmas.Bool.{and_parts}
use Rattle.std.proofs.lemmas.Bool.Decides.{nat_tests}
use Rattle.pur_text.specs.Characters.{is_blank}
use Rattle.pur_names.specs.declared.elements.Element.{Element}
use Rattle.pur_names.specs.declared.elements.Element.TheVariants.{Tbody, Tr}
use Rattle.pur_names.specs.Elements.{same_element}
use Rattle.pur_names.proofs.ElementLaws.{same_element-Decides}
use Rattle.pur_modules.specs.Groups.{is_among}
use Rattle.pur_tree.specs.Nodes.{PlainElem, Nodes, no_nodes, text_first, elem_first, nodes_append, has_no_nodes}
use Rattle.pur_nesting.specs.declared.permits.Permits.{Permits}
use Rattle.pur_nesting.specs.declared.roles.Role.{Role}
use Rattle.pur_nesting.specs.declared.roles.Role.TheVariants.{Title, Column, ColumnGroup, Header, Footer, Body, Row, Stranger}
use Rattle.pur_nesting.specs.declared.roles.Part.{Part}
use Rattle.pur_nesting.specs.declared.roles.Part.TheVariants.{Lead, Captions, Columns, Heads, Feet, Bodies, Surplus}
use Rattle.pur_nesting.specs.declared.roles.Met.{Met}
use Rattle.pur_nesting.specs.Parts.{role_of, part_rank, same_part, next, part, at_first}
use Rattle.pur_nesting.specs.Tables.{has_child, is_head_or_foot, as_bodies, runs_in_bodies, of_one_kind, repaired_table}
use Rattle.pur_nesting.specs.Private.Order.{stage, after, goes_on, is_in_order}
use Rattle.pur_nesting.proofs.RoleLemmas.{of_role, same_part-true}

-- the test of an order
from_at_most : (a b : ℕ) → nat_le a b ≡ true → a ≤ b
from_at_most a b h = grind (arith, nat_tests, h)

-- what the test says of a text in front, and of an element
goes_text : (g b : Bool) (s : ℕ) (had : Bool) (t : List ℕ) (f : Nodes) → goes_on g b s had (text_first t f) ≡ true → goes_on g b s had f ≡ true
goes_text g b s had t f h = (and_parts (is_blank t) (goes_on g b s had f) h).1

goes_elem : (g b : Bool) (s : ℕ) (had : Bool) (e : PlainElem) (kids f : Nodes) → goes_on g b s had (elem_first e kids f) ≡ true
    → (s ≤ stage g b (role_of e.name)) × (stage g b (role_of e.name) ≤ 4)
    × (goes_on g b (after (role_of e.name)) (had || nat_le 4 (stage g b (role_of e.name))) f ≡ true)
goes_elem g b s had e kids f h =
    let two = and_parts (nat_le s (stage g b (role_of e.name)) && nat_le (stage g b (role_of e.name)) 4) (goes_on g b (after (role_of e.name)) (had || nat_le 4 (stage g b (role_of e.name))) f) h in
    let one = and_parts (nat_le s (stage g b (role_of e.name))) (nat_le (stage g b (role_of e.name)) 4) two.0 in
    (from_at_most s (stage g b (role_of e.name)) one.0, from_at_most (stage g b (role_of e.name)) 4 one.1, two.1)

-- what has been met where a word goes on from a stage
record Ready (g : Bool) (s : ℕ) (m : Met) : Type 0 where
  caption : s ≡ 0 → m.caption ≡ false
  kind : (if g then m.columns else m.groups) ≡ false
  head : s ≤ 2 → m.head ≡ false
  foot : s ≤ 3 → m.foot ≡ false
  at : part_rank m.part ≤ s + 1
  low : s ≤ 4

step : (g b : Bool) (s : ℕ) (m : Met) (r : Role) → Ready g s m → s ≤ stage g b r → stage g b r ≤ 4
    → (part_rank (next m r).part ≡ stage g b r + 1) × Ready g (after r) (next m r)
step g b s m Title ready up low =
    let none : m.caption ≡ false = ready.caption (omega arith) in
    (rw none refl, record { caption = λ h. absurd (omega arith); kind = ready.kind; head = λ h. ready.head (omega arith); foot = λ h. ready.foot (omega arith); at = rw none (omega arith); low = omega arith })
step true b s m Column ready up low = absurd (omega arith)
step false b s m Column ready up low =
    let none : m.groups ≡ false = ready.kind in
    (rw none refl, record { caption = λ h. absurd (omega arith); kind = ready.kind; head = λ h. ready.head (omega arith); foot = λ h. ready.foot (omega arith); at = rw none (omega arith); low = omega arith })
step false b s m ColumnGroup ready up low = absurd (omega arith)
step true b s m ColumnGroup ready up low =
    let none : m.columns ≡ false = ready.kind in
    (rw none refl, record { caption = λ h. absurd (omega arith); kind = ready.kind; head = λ h. ready.head (omega arith); foot = λ h. ready.foot (omega arith); at = rw none (omega arith); low = omega arith })
step g b s m Header ready up low =
    let none : m.head ≡ false = ready.head up in
    (rw none refl, record { caption = λ h. absurd (omega arith); kind = ready.kind; head = λ h. absurd (omega arith); foot = λ h. ready.foot (omega arith); at = rw none (omega arith); low = omega arith })
step g b s m Footer ready up low =
    let none : m.foot ≡ false = ready.foot up in
    (rw none refl, record { caption = λ h. absurd (omega arith); kind = ready.kind; head = λ h. absurd (omega arith); foot = λ h. absurd (omega arith); at = rw none (omega arith); low = omega arith })
step g true s m Body ready up low =
    (refl, record { caption = λ h. absurd (omega arith); kind = ready.kind; head = λ h. absurd (omega arith); foot = λ h. absurd (omega arith); at = omega arith; low = omega arith })
step g false s m Body ready up low = absurd (omega arith)
step g false s m Row ready up low =
    (refl, record { caption = λ h. absurd (omega arith); kind = ready.kind; head = λ h. absurd (omega arith); foot = λ h. absurd (omega arith); at = omega arith; low = omega arith })
step g true s m Row ready up low = absurd (omega arith)
step g b s m Stranger ready up low = absurd (omega arith)

other_part : (w v : Part) → part_rank w < part_rank v → same_part w v ≡ false
other_part w v h = grind (arith, nat_tests)

-- nothing belongs to a part before the one at hand
lower : (g b : Bool) (s : ℕ) (had : Bool) (m : Met) (f : Nodes) → Ready g s m → goes_on g b s had f ≡ true
    → (w : Part) → part_rank w < part_rank m.part → part w m f ≡ no_nodes
lower g b s had m no_nodes ready k w h = refl
lower g b s had m (text_first t f) ready k w h = rw (other_part w m.part h) (lower g b s had m f ready (goes_text g b s had t f k) w h)
lower g b s had m (elem_first e kids f) ready k w h =
    let go = goes_elem g b s had e kids f k in
    let r = step g b s m (role_of e.name) ready go.0 go.1 in
    let up : s ≤ stage g b (role_of e.name) = go.0 in
    let at : part_rank (next m (role_of e.name)).part ≡ stage g b (role_of e.name) + 1 = r.0 in
    let here : part_rank m.part ≤ s + 1 = ready.at in
    let below : part_rank w < part_rank (next m (role_of e.name)).part = omega arith in
    rw (other_part w (next m (role_of e.name)).part below)
    (lower g b (after (role_of e.name)) (had || nat_le 4 (stage g b (role_of e.name))) (next m (role_of e.name)) f r.1 go.2 w below)

-- the parts in their order
abbrev whole : (Part → Nodes) → Nodes
whole N = nodes_append (N Lead) (nodes_append (N Captions) (nodes_append (N Columns) (nodes_append (N Heads) (nodes_append (N Feet) (N Bodies)))))

-- a node in front of a part, where the parts before it are empty, stands in front of all
whole_front : (front : Nodes → Nodes) → ((f g : Nodes) → nodes_append (front f) g ≡ front (nodes_append f g)) → (q : Part) (N : Part → Nodes) (f : Nodes)
    → part_rank q ≤ 5 → ((w : Part) → part_rank w < part_rank q → N w ≡ no_nodes) → whole N ≡ f
    → whole (λ w. if same_part w q then front (N w) else N w) ≡ front f
whole_front front joins Lead N f low none all = joins (N Lead) _ ∙ ap front all
whole_front front joins Captions N f low none all =
    let e0 : N Lead ≡ no_nodes = none Lead (omega arith) in
    let rest = rw (e0) at all in
    rw (e0) (joins (N Captions) _ ∙ ap front rest)
whole_front front joins Columns N f low none all =
    let e0 : N Lead ≡ no_nodes = none Lead (omega arith) in
    let e1 : N Captions ≡ no_nodes = none Captions (omega arith) in
    let rest = rw (e0, e1) at all in
    rw (e0, e1) (joins (N Columns) _ ∙ ap front rest)
whole_front front joins Heads N f low none all =
    let e0 : N Lead ≡ no_nodes = none Lead (omega arith) in
    let e1 : N Captions ≡ no_nodes = none Captions (omega arith) in
    let e2 : N Columns ≡ no_nodes = none Columns (omega arith) in
    let rest = rw (e0, e1, e2) at all in
    rw (e0, e1, e2) (joins (N Heads) _ ∙ ap front rest)
whole_front front joins Feet N f low none all =
    let e0 : N Lead ≡ no_nodes = none Lead (omega arith) in
    let e1 : N Captions ≡ no_nodes = none Captions (omega arith) in
    let e2 : N Columns ≡ no_nodes = none Columns (omega arith) in
    let e3 : N Heads ≡ no_nodes = none Heads (omega arith) in
    let rest = rw (e0, e1, e2, e3) at all in
    rw (e0, e1, e2, e3) (joins (N Feet) _ ∙ ap front rest)
whole_front front joins Bodies N f low none all =
    let e0 : N Lead ≡ no_nodes = none Lead (omega arith) in
    let e1 : N Captions ≡ no_nodes = none Captions (omega arith) in
    let e2 : N Columns ≡ no_nodes = none Columns (omega arith) in
    let e3 : N Heads ≡ no_nodes = none Heads (omega arith) in
    let e4 : N Feet ≡ no_nodes = none Feet (omega arith) in
    let rest = rw (e0, e1, e2, e3, e4) at all in
    rw (e0, e1, e2, e3, e4) (ap front rest)
whole_front front joins Surplus N f low none all = absurd (omega arith)

-- the parts of a table in order are the table
parts_whole : (g b : Bool) (s : ℕ) (had : Bool) (m : Met) (f : Nodes) → Ready g s m → goes_on g b s had f ≡ true → whole (λ w. part w m f) ≡ f
parts_whole g b s had m no_nodes ready k = refl
parts_whole g b s had m (text_first t f) ready k =
    let k2 = goes_text g b s had t f k in
    let here : part_rank m.part ≤ s + 1 = ready.at in
    let low : s ≤ 4 = ready.low in
    whole_front (text_first t) (λ f g. refl) m.part (λ w. part w m f) f (omega arith) (λ w h. lower g b s had m f ready k2 w h) (parts_whole g b s had m f ready k2)
parts_whole g b s had m (elem_first e kids f) ready k =
    let go = goes_elem g b s had e kids f k in
    let r = step g b s m (role_of e.name) ready go.0 go.1 in
    let at : part_rank (next m (role_of e.name)).part ≡ stage g b (role_of e.name) + 1 = r.0 in
    let low : stage g b (role_of e.name) ≤ 4 = go.1 in
    whole_front (elem_first e kids) (λ f g. refl) (next m (role_of e.name)).part (λ w. part w (next m (role_of e.name)) f) f (omega arith)
    (λ w h. lower g b (after (role_of e.name)) (had || nat_le 4 (stage g b (role_of e.name))) (next m (role_of e.name)) f r.1 go.2 w h)
    (parts_whole g b (after (role_of e.name)) (had || nat_le 4 (stage g b (role_of e.name))) (next m (role_of e.name)) f r.1 go.2)

-- elements of these names alone
abbrev pub Only : List Element → Nodes → Type 0
Only es no_nodes = Unit {0}
Only es (text_first s f) = Only es f
Only es (elem_first e kids f) = (is_among es e.name ≡ true) × Only es f

-- what belongs to the bodies are bodies of the one kind
body_role : (g b : Bool) (r : Role) → stage g b r ≡ 4 → r ≡ (if b then Body else Row)
body_role g b Title h = absurd (omega arith)
body_role true b Column h = absurd (omega arith)
body_role false b Column h = absurd (omega arith)
body_role true b ColumnGroup h = absurd (omega arith)
body_role false b ColumnGroup h = absurd (omega arith)
body_role g b Header h = absurd (omega arith)
body_role g b Footer h = absurd (omega arith)
body_role g true Body h = refl
body_role g false Body h = absurd (omega arith)
body_role g true Row h = absurd (omega arith)
body_role g false Row h = refl
body_role g b Stranger h = absurd (omega arith)

body_name : (b : Bool) (e : Element) → role_of e ≡ (if b then Body else Row) → is_among ((if b then Tbody else Tr) ∷ []) e ≡ true
body_name true e h = ap (is_among (Tbody ∷ [])) (of_role e Body h refl)
body_name false e h = ap (is_among (Tr ∷ [])) (of_role e Row h refl)

bodies_only : (g b : Bool) (s : ℕ) (had : Bool) (m : Met) (f : Nodes) → Ready g s m → goes_on g b s had f ≡ true
    → Only ((if b then Tbody else Tr) ∷ []) (part Bodies m f)
bodies_only g b s had m no_nodes ready k = tt
bodies_only g b s had m (text_first t f) ready k = go (same_part Bodies m.part) (bodies_only g b s had m f ready (goes_text g b s had t f k))
  where
    go : (c : Bool) → Only ((if b then Tbody else Tr) ∷ []) (part Bodies m f) → Only ((if b then Tbody else Tr) ∷ []) (if c then text_first t (part Bodies m f) else part Bodies m f)
    go true r = r
    go false r = r
bodies_only g b s had m (elem_first e kids f) ready k =
    let on = goes_elem g b s had e kids f k in
    let r = step g b s m (role_of e.name) ready on.0 on.1 in
    go (same_part Bodies (next m (role_of e.name)).part) refl r.0
    (bodies_only g b (after (role_of e.name)) (had || nat_le 4 (stage g b (role_of e.name))) (next m (role_of e.name)) f r.1 on.2)
  where
    go : (c : Bool) → same_part Bodies (next m (role_of e.name)).part ≡ c → part_rank (next m (role_of e.name)).part ≡ stage g b (role_of e.name) + 1
        → Only ((if b then Tbody else Tr) ∷ []) (part Bodies (next m (role_of e.name)) f)
        → Only ((if b then Tbody else Tr) ∷ []) (if c then elem_first e kids (part Bodies (next m (role_of e.name)) f) else part Bodies (next m (role_of e.name)) f)
    go true is rank r =
        let five : part_rank Bodies ≡ part_rank (next m (role_of e.name)).part = ap part_rank (same_part-true Bodies (next m (role_of e.name)).part is) in
        let four : stage g b (role_of e.name) ≡ 4 = omega (arith, five, rank) in
        (body_name b e.name (body_role g b (role_of e.name) four), r)
    go false is rank r = r

-- there are bodies
or_false_left : (a : Bool) → (a || false) ≡ true → a ≡ true
or_false_left true h = refl
or_false_left false h = h

bodies_there : (g b : Bool) (s : ℕ) (had : Bool) (m : Met) (f : Nodes) → Ready g s m → goes_on g b s had f ≡ true
    → (had ≡ true) ⊎ (has_no_nodes (part Bodies m f) ≡ false)
bodies_there g b s had m no_nodes ready k = inl k
bodies_there g b s had m (text_first t f) ready k = go (same_part Bodies m.part) (bodies_there g b s had m f ready (goes_text g b s had t f k))
  where
    go : (c : Bool) → (had ≡ true) ⊎ (has_no_nodes (part Bodies m f) ≡ false) → (had ≡ true) ⊎ (has_no_nodes (if c then text_first t (part Bodies m f) else part Bodies m f) ≡ false)
    go true r = inr refl
    go false r = r
bodies_there g b s had m (elem_first e kids f) ready k =
    let on = goes_elem g b s had e kids f k in
    let r = step g b s m (role_of e.name) ready on.0 on.1 in
    go (same_part Bodies (next m (role_of e.name)).part) refl r.0 on.1
    (bodies_there g b (after (role_of e.name)) (had || nat_le 4 (stage g b (role_of e.name))) (next m (role_of e.name)) f r.1 on.2)
  where
    go : (c : Bool) → same_part Bodies (next m (role_of e.name)).part ≡ c → part_rank (next m (role_of e.name)).part ≡ stage g b (role_of e.name) + 1 → stage g b (role_of e.name) ≤ 4
        → ((had || nat_le 4 (stage g b (role_of e.name))) ≡ true) ⊎ (has_no_nodes (part Bodies (next m (role_of e.name)) f) ≡ false)
        → (had ≡ true) ⊎ (has_no_nodes (if c then elem_first e kids (part Bodies (next m (role_of e.name)) f) else part Bodies (next m (role_of e.name)) f) ≡ false)
    go true is rank low r = inr refl
    go false is rank low (inr r) = inr r
    go false is rank low (inl r) =
        let early : nat_le 4 (stage g b (role_of e.name)) ≡ false = grind (arith, nat_tests, is, rank, low) in
        let r2 : (had || false) ≡ true = rw early at r in
        inl (or_false_left had r2)

-- bodies of one kind stay as they are
not_head : (b : Bool) (e : Element) → is_among ((if b then Tbody else Tr) ∷ []) e ≡ true → is_head_or_foot (role_of e) ≡ false
not_head true e h = go (same_element e Tbody) refl h
  where
    go : (c : Bool) → same_element e Tbody ≡ c → (c || false) ≡ true → is_head_or_foot (role_of e) ≡ false
    go true is k = ap (λ x. is_head_or_foot (role_of x)) ((same_element-Decides e Tbody).0 is)
    go false is k = absurd (cc)
not_head false e h = go (same_element e Tr) refl h
  where
    go : (c : Bool) → same_element e Tr ≡ c → (c || false) ≡ true → is_head_or_foot (role_of e) ≡ false
    go true is k = ap (λ x. is_head_or_foot (role_of x)) ((same_element-Decides e Tr).0 is)
    go false is k = absurd (cc)

as_bodies_same : (tbody b : Bool) (f : Nodes) → Only ((if b then Tbody else Tr) ∷ []) f → as_bodies tbody f ≡ f
as_bodies_same tbody b no_nodes o = refl
as_bodies_same tbody b (text_first s f) o = ap (text_first s) (as_bodies_same tbody b f o)
as_bodies_same tbody b (elem_first e kids f) o = rw (not_head b e.name o.0) (ap (elem_first e kids) (as_bodies_same tbody b f o.1))

among_one : (x e : Element) → is_among (x ∷ []) e ≡ true → e ≡ x
among_one x e h = go (same_element e x) refl h
  where
    go : (c : Bool) → same_element e x ≡ c → (c || false) ≡ true → e ≡ x
    go true is k = (same_element-Decides e x).0 is
    go false is k = absurd (cc)

runs_same : (f : Nodes) → Only (Tbody ∷ []) f → runs_in_bodies false f ≡ f
runs_same no_nodes o = refl
runs_same (text_first s f) o = ap (text_first s) (runs_same f o)
runs_same (elem_first e kids f) o =
    let no_row : same_element e.name Tr ≡ false = ap (λ x. same_element x Tr) (among_one Tbody e.name o.0) in
    rw no_row (ap (elem_first e kids) (runs_same f o.1))

no_body_there : (f : Nodes) → Only (Tr ∷ []) f → has_child (Tbody ∷ []) f ≡ false
no_body_there no_nodes o = refl
no_body_there (text_first s f) o = no_body_there f o
no_body_there (elem_first e kids f) o =
    let no : is_among (Tbody ∷ []) e.name ≡ false = ap (is_among (Tbody ∷ [])) (among_one Tr e.name o.0) in
    rw no (no_body_there f o.1)

one_kind_same : (b : Bool) (f : Nodes) → Only ((if b then Tbody else Tr) ∷ []) f → of_one_kind f ≡ f
one_kind_same true f o = go (has_child (Tbody ∷ []) f)
  where
    go : (c : Bool) → (if c then runs_in_bodies false f else f) ≡ f
    go true = runs_same f o
    go false = refl
one_kind_same false f o = rw (no_body_there f o) refl

ready_first : (g : Bool) → Ready g 0 at_first
ready_first true = record { caption = λ h. refl; kind = refl; head = λ h. refl; foot = λ h. refl; at = omega arith; low = omega arith }
ready_first false = record { caption = λ h. refl; kind = refl; head = λ h. refl; foot = λ h. refl; at = omega arith; low = omega arith }

table_in_order : (p : Permits) (g b : Bool) (e : PlainElem) (kids : Nodes) → goes_on g b 0 false kids ≡ true → repaired_table p e kids ≡ elem_first e kids no_nodes
table_in_order p g b e kids k = go (bodies_there g b 0 false at_first kids (ready_first g) k)
  where
    only : Only ((if b then Tbody else Tr) ∷ []) (part Bodies at_first kids)
    only = bodies_only g b 0 false at_first kids (ready_first g) k

    all : whole (λ w. part w at_first kids) ≡ kids
    all = parts_whole g b 0 false at_first kids (ready_first g) k

    same : of_one_kind (as_bodies p.tbody (part Bodies at_first kids)) ≡ part Bodies at_first kids
    same = ap of_one_kind (as_bodies_same p.tbody b (part Bodies at_first kids) only) ∙ one_kind_same b (part Bodies at_first kids) only

    go : (false ≡ true) ⊎ (has_no_nodes (part Bodies at_first kids) ≡ false) → repaired_table p e kids ≡ elem_first e kids no_nodes
    go (inl h) = absurd (cc)
    go (inr h) = rw (h, same) (ap (λ f. elem_first e f no_nodes) all)

-- a table in order stays as it is, whatever the kinds of its columns and bodies
pub in_order_same : (p : Permits) (e : PlainElem) (kids : Nodes) → is_in_order kids ≡ true → repaired_table p e kids ≡ elem_first e kids no_nodes
in_order_same p e kids h =
    go (goes_on false false 0 false kids) refl (goes_on false true 0 false kids) refl (goes_on true false 0 false kids) refl (goes_on true true 0 false kids) refl h
  where
    go : (w : Bool) → goes_on false false 0 false kids ≡ w → (x : Bool) → goes_on false true 0 false kids ≡ x → (y : Bool) → goes_on true false 0 false kids ≡ y
        → (z : Bool) → goes_on true true 0 false kids ≡ z → (w || (x || (y || z))) ≡ true → repaired_table p e kids ≡ elem_first e kids no_nodes
    go true we x xe y ye z ze k = table_in_order p false false e kids we
    go false we true xe y ye z ze k = table_in_order p false true e kids xe
    go false we false xe true ye z ze k = table_in_order p true false e kids ye
    go false we false xe false ye true ze k = table_in_order p true true e kids ze
    go false we false xe false ye false ze k = absurd (cc)
