-- Settled nodes pass the test, and what passes it stays as it is.
use Rattle.std.proofs.Common.{◌≡◌, ℕ, ◌≤◌, ◌⊎◌, inl, inr, length, List, [], ◌∷◌, ◌++◌, Bool, true, false, not, ◌&&◌, ◌||◌, refl, ap, sym, ◌∙◌, subst, arith}
use Rattle.std.specs.Prelude.{if◌then◌else◌, nat_le}
use Rattle.std.proofs.lemmas.Bool.{and_from, and_parts}
use Rattle.std.proofs.lemmas.Bool.Decides.{nat_tests}
use Rattle.pur_text.specs.Characters.{is_blank}
use Rattle.pur_names.specs.declared.elements.Element.{Element}
use Rattle.pur_names.specs.declared.elements.Element.TheVariants.{Caption, Col, Colgroup, Table, Tbody, Tfoot, Thead, Tr}
use Rattle.pur_names.specs.Elements.{same_element}
use Rattle.pur_names.proofs.ElementLaws.{same_element-Decides}
use Rattle.pur_modules.specs.declared.kinds.Child.{Child}
use Rattle.pur_modules.specs.declared.kinds.Child.TheVariants.{Text, Elem}
use Rattle.pur_modules.specs.Expressions.{optional, any_of, some_of, elems}
use Rattle.pur_models.specs.Languages.{IsRun, all_among}
use Rattle.pur_models.specs.Laws.{IsTableWord}
use Rattle.pur_tree.specs.Nodes.{PlainElem, Nodes, no_nodes, text_first, elem_first, starts_with_text, is_joined}
use Rattle.pur_tree.specs.Walks.{walk, joined_nodes}
use Rattle.pur_tree.specs.Words.{word_of}
use Rattle.pur_tree.proofs.WalkLemmas.{joined_nodes-same}
use Rattle.pur_nesting.specs.declared.permits.Permits.{Permits}
use Rattle.pur_nesting.specs.Nesting.{vanishes, repair, nested}
use Rattle.pur_nesting.specs.Parts.{role_of}
use Rattle.pur_nesting.specs.Settled.{IsSettled}
use Rattle.pur_nesting.specs.Tables.{repaired_table}
use Rattle.pur_nesting.specs.Private.Order.{stage, after, goes_on, is_in_order, is_settled}
use Rattle.pur_nesting.proofs.OrderLemmas.{in_order_same}

-- a word goes on in order from a stage, and has a body at its end (or had one before)
abbrev Goes : Bool → Bool → ℕ → Bool → List Child → Type 0
Goes g b s had [] = had ≡ true
Goes g b s had (Text ∷ w) = ⊥
Goes g b s had (Elem e ∷ w) = (s ≤ stage g b (role_of e)) × (stage g b (role_of e) ≤ 4) × Goes g b (after (role_of e)) (had || nat_le 4 (stage g b (role_of e))) w

Goes-mono : (g b : Bool) (s t : ℕ) (had : Bool) (w : List Child) → s ≤ t → Goes g b t had w → Goes g b s had w
Goes-mono g b s t had [] h k = k
Goes-mono g b s t had (Text ∷ w) h k = k
Goes-mono g b s t had (Elem e ∷ w) h k = let a : t ≤ stage g b (role_of e) = k.0 in (omega arith, k.1, k.2)

-- the elements of a run of one name
run_first : (x : Element) (e : Element) (run : List Child) → all_among (elems (x ∷ [])) (Elem e ∷ run) ≡ true → (e ≡ x) × (all_among (elems (x ∷ [])) run ≡ true)
run_first x e run all = go (same_element e x) refl all
  where
    go : (c : Bool) → same_element e x ≡ c → ((c || false) && all_among (elems (x ∷ [])) run) ≡ true → (e ≡ x) × (all_among (elems (x ∷ [])) run ≡ true)
    go true same k = ((same_element-Decides e x).0 same, k)
    go false same k = absurd (cc)

-- an element of a stage before the bodies in front
Goes-first : (g b : Bool) (x : Element) (s t : ℕ) (w : List Child) → stage g b (role_of x) ≡ s → after (role_of x) ≡ t → s ≤ 4 → nat_le 4 s ≡ false
    → Goes g b t false w → Goes g b s false (Elem x ∷ w)
Goes-first g b x s t w is next low early more =
    let here : s ≤ stage g b (role_of x) = omega (arith, is) in
    let low2 : stage g b (role_of x) ≤ 4 = omega (arith, is) in
    let had : (false || nat_le 4 (stage g b (role_of x))) ≡ false = rw is early in
    (here, low2, rw (had, next) more)

-- a run of many before the bodies
Goes-many : (g b : Bool) (x : Element) (s : ℕ) (run rest : List Child) → stage g b (role_of x) ≡ s → after (role_of x) ≡ s → s ≤ 4 → nat_le 4 s ≡ false
    → all_among (elems (x ∷ [])) run ≡ true → Goes g b s false rest → Goes g b s false (run ++ rest)
Goes-many g b x s [] rest is next low early all more = more
Goes-many g b x s (Text ∷ run) rest is next low early all more = absurd (cc)
Goes-many g b x s (Elem e ∷ run) rest is next low early all more =
    let f = run_first x e run all in
    rw f.0 (Goes-first g b x s s (run ++ rest) is next low early (Goes-many g b x s run rest is next low early f.1 more))

-- a run of at most one
Goes-one : (g b : Bool) (x : Element) (s t : ℕ) (run rest : List Child) → stage g b (role_of x) ≡ s → after (role_of x) ≡ t → s ≤ t → s ≤ 4 → nat_le 4 s ≡ false
    → length run ≤ 1 → all_among (elems (x ∷ [])) run ≡ true → Goes g b t false rest → Goes g b s false (run ++ rest)
Goes-one g b x s t [] rest is next up low early one all more = Goes-mono g b s t false rest up more
Goes-one g b x s t (Text ∷ run) rest is next up low early one all more = absurd (cc)
Goes-one g b x s t (Elem e ∷ []) rest is next up low early one all more =
    let f = run_first x e [] all in rw f.0 (Goes-first g b x s t rest is next low early more)
Goes-one g b x s t (Elem e ∷ (c ∷ run)) rest is next up low early one all more = absurd (omega arith)

-- bodies
Goes-bodies : (g b : Bool) (x : Element) (run : List Child) → stage g b (role_of x) ≡ 4 → after (role_of x) ≡ 4 → all_among (elems (x ∷ [])) run ≡ true → Goes g b 4 true run
Goes-bodies g b x [] is next all = refl
Goes-bodies g b x (Text ∷ run) is next all = absurd (cc)
Goes-bodies g b x (Elem e ∷ run) is next all =
    let f = run_first x e run all in
    rw f.0 (let here : 4 ≤ stage g b (role_of x) = omega (arith, is) in let low : stage g b (role_of x) ≤ 4 = omega (arith, is) in (here, low, rw next (Goes-bodies g b x run is next f.1)))

Goes-some_bodies : (g b : Bool) (x : Element) (run : List Child) → stage g b (role_of x) ≡ 4 → after (role_of x) ≡ 4 → 1 ≤ length run → all_among (elems (x ∷ [])) run ≡ true → Goes g b 4 false run
Goes-some_bodies g b x [] is next some all = absurd (omega arith)
Goes-some_bodies g b x (Text ∷ run) is next some all = absurd (cc)
Goes-some_bodies g b x (Elem e ∷ run) is next some all =
    let f = run_first x e run all in
    rw f.0 (let here : 4 ≤ stage g b (role_of x) = omega (arith, is) in let low : stage g b (role_of x) ≤ 4 = omega (arith, is) in
    let had : (false || nat_le 4 (stage g b (role_of x))) ≡ true = rw is refl in
    (here, low, rw (had, next) (Goes-bodies g b x run is next f.1)))

-- a table's word goes in order
Goes-table : (g b : Bool) (x y : Element) (captions columns heads feet bodies : List Child) → stage g b (role_of x) ≡ 1 → after (role_of x) ≡ 1 → stage g b (role_of y) ≡ 4 → after (role_of y) ≡ 4
    → IsRun (optional Caption) captions → IsRun (any_of (elems (x ∷ []))) columns → IsRun (optional Thead) heads → IsRun (optional Tfoot) feet → IsRun (some_of (elems (y ∷ []))) bodies
    → Goes g b 0 false (captions ++ (columns ++ (heads ++ (feet ++ bodies))))
Goes-table g b x y captions columns heads feet bodies xs xa ys ya c k h f b2 =
    Goes-one g b Caption 0 1 captions _ refl refl (omega arith) (omega arith) refl (c.most refl) c.letters
    (Goes-many g b x 1 columns _ xs xa (omega arith) refl k.letters
    (Goes-mono g b 1 2 false (heads ++ (feet ++ bodies)) (omega arith)
    (Goes-one g b Thead 2 3 heads _ refl refl (omega arith) (omega arith) refl (h.most refl) h.letters
    (Goes-one g b Tfoot 3 4 feet _ refl refl (omega arith) (omega arith) refl (f.most refl) f.letters
    (Goes-some_bodies g b y bodies ys ya b2.least b2.letters)))))

at_most : (a b : ℕ) → a ≤ b → nat_le a b ≡ true
at_most a b h = grind (arith, nat_tests, h)

-- a word that goes on in order passes the test
test-Goes : (g b : Bool) (s : ℕ) (had : Bool) (f : Nodes) → Goes g b s had (word_of false f) → goes_on g b s had f ≡ true
test-Goes g b s had no_nodes k = k
test-Goes g b s had (text_first t f) k = go (is_blank t) k (λ h. test-Goes g b s had f h)
  where
    go : (c : Bool) → Goes g b s had (if not false && c then word_of false f else Text ∷ word_of false f) → (Goes g b s had (word_of false f) → goes_on g b s had f ≡ true)
        → (c && goes_on g b s had f) ≡ true
    go true k r = r k
    go false k r = absurd k
test-Goes g b s had (elem_first e kids f) k =
    and_from _ _ (and_from _ _ (at_most s (stage g b (role_of e.name)) k.0) (at_most (stage g b (role_of e.name)) 4 k.1))
    (test-Goes g b (after (role_of e.name)) (had || nat_le 4 (stage g b (role_of e.name))) f k.2)

or_true : (b : Bool) → (b || true) ≡ true
or_true true = refl
or_true false = refl

or_second : (a b : Bool) → (a || (b || true)) ≡ true
or_second true b = refl
or_second false b = or_true b

or_third : (a b c : Bool) → (a || (b || (c || true))) ≡ true
or_third true b c = refl
or_third false b c = or_second b c

-- the children of a table are in order where they are a table's word
in_order-word : (kids : Nodes) → IsTableWord (word_of false kids) → is_in_order kids ≡ true
in_order-word kids t = go t.column_kind t.body_kind
  where
    tests : (g b : Bool) → goes_on g b 0 false kids ≡ true → is_in_order kids ≡ true
    tests false false h = rw h refl
    tests false true h = rw h (or_true (goes_on false false 0 false kids))
    tests true false h = rw h (or_second (goes_on false false 0 false kids) (goes_on false true 0 false kids))
    tests true true h = rw h (or_third (goes_on false false 0 false kids) (goes_on false true 0 false kids) (goes_on true false 0 false kids))

    move : (g b : Bool) (x y : Element) → t.column ≡ x → t.body ≡ y → stage g b (role_of x) ≡ 1 → after (role_of x) ≡ 1 → stage g b (role_of y) ≡ 4 → after (role_of y) ≡ 4
        → is_in_order kids ≡ true
    move g b x y xe ye xs xa ys ya =
        let columns : IsRun (any_of (elems (x ∷ []))) t.columns = subst (λ z. IsRun (any_of (elems (z ∷ []))) t.columns) xe t.column_run in
        let bodies : IsRun (some_of (elems (y ∷ []))) t.bodies = subst (λ z. IsRun (some_of (elems (z ∷ []))) t.bodies) ye t.body_run in
        let goes : Goes g b 0 false (word_of false kids) =
        subst (λ w. Goes g b 0 false w) (sym t.joined) (Goes-table g b x y t.captions t.columns t.heads t.feet t.bodies xs xa ys ya t.caption_run columns t.head_run t.foot_run bodies) in
        tests g b (test-Goes g b 0 false kids goes)

    go : (t.column ≡ Col) ⊎ (t.column ≡ Colgroup) → (t.body ≡ Tbody) ⊎ (t.body ≡ Tr) → is_in_order kids ≡ true
    go (inl c) (inl b) = move false true Col Tbody c b refl refl refl refl
    go (inl c) (inr b) = move false false Col Tr c b refl refl refl refl
    go (inr c) (inl b) = move true true Colgroup Tbody c b refl refl refl refl
    go (inr c) (inr b) = move true false Colgroup Tr c b refl refl refl refl

-- settled nodes pass the test
pub test-settled : (f : Nodes) → IsSettled f → is_settled f ≡ true
test-settled no_nodes s = refl
test-settled (text_first t f) s = and_from _ _ (ap not s.0) (test-settled f s.1)
test-settled (elem_first e kids f) s =
    and_from _ _ (ap not s.0) (and_from _ _ (go (same_element e.name Table) s.1) (and_from _ _ (test-settled kids s.2) (test-settled f s.3)))
  where
    go : (b : Bool) → (b ≡ true → IsTableWord (word_of false kids)) → (not b || is_in_order kids) ≡ true
    go true w = in_order-word kids (w refl)
    go false w = refl

repair_same : (p : Permits) (e : PlainElem) (kids : Nodes) → not (vanishes e.name kids) ≡ true → (not (same_element e.name Table) || is_in_order kids) ≡ true
    → repair p e kids ≡ elem_first e kids no_nodes
repair_same p e kids stays order = go (same_element e.name Table) (vanishes e.name kids) stays order
  where
    go : (b v : Bool) → not v ≡ true → (not b || is_in_order kids) ≡ true
        → (if b then repaired_table p e kids else (if v then no_nodes else elem_first e kids no_nodes)) ≡ elem_first e kids no_nodes
    go true v s o = in_order_same p e kids o
    go false true s o = absurd (cc)
    go false false s o = refl

-- what the test asks of an element in front
record Passes (e : PlainElem) (kids f : Nodes) : Type 0 where
  stays : not (vanishes e.name kids) ≡ true
  order : (not (same_element e.name Table) || is_in_order kids) ≡ true
  inside : is_settled kids ≡ true
  behind : is_settled f ≡ true

passes : (e : PlainElem) (kids f : Nodes) → is_settled (elem_first e kids f) ≡ true → Passes e kids f
passes e kids f s =
    let a = and_parts (not (vanishes e.name kids)) ((not (same_element e.name Table) || is_in_order kids) && (is_settled kids && is_settled f)) s in
    let b = and_parts (not (same_element e.name Table) || is_in_order kids) (is_settled kids && is_settled f) a.1 in
    let c = and_parts (is_settled kids) (is_settled f) b.1 in
    record { stays = a.0; order = b.0; inside = c.0; behind = c.1 }

walk_same : (p : Permits) (f : Nodes) → is_settled f ≡ true → walk (repair p) f ≡ f
walk_same p no_nodes s = refl
walk_same p (text_first t f) s = ap (text_first t) (walk_same p f (and_parts (not (starts_with_text f)) (is_settled f) s).1)
walk_same p (elem_first e kids f) s =
    let all = passes e kids f s in
    let inner : walk (repair p) kids ≡ kids = walk_same p kids all.inside in
    let here : repair p e kids ≡ elem_first e kids no_nodes = repair_same p e kids all.stays all.order in
    rw (inner, here) (ap (elem_first e kids) (walk_same p f all.behind))

are_joined : (f : Nodes) → is_settled f ≡ true → is_joined f ≡ true
are_joined no_nodes s = refl
are_joined (text_first t f) s =
    let two = and_parts (not (starts_with_text f)) (is_settled f) s in and_from _ _ two.0 (are_joined f two.1)
are_joined (elem_first e kids f) s =
    let all = passes e kids f s in and_from _ _ (are_joined kids all.inside) (are_joined f all.behind)

-- what passes the test stays as it is
pub tested_same : (p : Permits) (f : Nodes) → is_settled f ≡ true → nested p f ≡ f
tested_same p f s = ap joined_nodes (walk_same p f s) ∙ joined_nodes-same f (are_joined f s)

-- and so do settled nodes
pub settled_same : (p : Permits) (f : Nodes) → IsSettled f → nested p f ≡ f
settled_same p f s = tested_same p f (test-settled f s)
