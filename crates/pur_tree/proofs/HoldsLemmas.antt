-- Properties that hold at every depth, through appending, joining and walks.
use Rattle.std.proofs.Common.{◌≡◌, ℕ, ◌≤◌, ◌<◌, List, [], ◌∷◌, ◌++◌, length, Bool, true, false, not, ◌&&◌, ◌||◌, nat_lt, refl, ◌∙◌, arith, length-append}
use Rattle.std.specs.List.{list_all}
use Rattle.std.proofs.lemmas.Bool.Decides.{nat_tests}
use Rattle.std.proofs.lemmas.List.Folds.{list_all-append}
use Rattle.std.proofs.lemmas.Bool.{and_from, and_parts}
use Rattle.pur_text.specs.Characters.{is_allowed}
use Rattle.pur_modules.specs.Contents.{is_empty_element}
use Rattle.pur_tree.specs.Nodes.{PlainElem, Nodes, no_nodes, text_first, elem_first, nodes_append, has_no_nodes, is_sound, level_in}
use Rattle.pur_tree.specs.Places.{Place, inside, level_limit, fragment}
use Rattle.pur_tree.specs.Forests.{IsForest}
use Rattle.pur_attrlist.specs.Attributes.{is_distinct}
use Rattle.pur_tree.specs.Properties.{Property, Holds, levels, soundness, spellable, allowed, distinct}
use Rattle.pur_tree.specs.Spelling.{are_spellable, is_spellable, has_allowed_values, has_allowed_characters, has_distinct_names}
use Rattle.pur_tree.specs.Walks.{walk, text_joined, joined_nodes}
use Rattle.pur_tree.proofs.WalkLemmas.{level-joined_nodes}

pub Holds-append : (q : Property) (w : q.Where) (f g : Nodes) → Holds q w f → Holds q w g → Holds q w (nodes_append f g)
Holds-append q w no_nodes g h k = k
Holds-append q w (text_first s f) g h k = (h.0, Holds-append q w f g h.1 k)
Holds-append q w (elem_first e kids f) g h k = (h.0, h.1, Holds-append q w f g h.2 k)

-- a walk keeps a property that its rule keeps
pub Holds-walk : (q : Property) (rule : PlainElem → Nodes → Nodes)
    → ((w : q.Where) (e : PlainElem) (kids : Nodes) → q.elem w e → Holds q (q.inside w e.name) kids → Holds q w (rule e kids))
    → (w : q.Where) (f : Nodes) → Holds q w f → Holds q w (walk rule f)
Holds-walk q rule keeps w no_nodes h = tt
Holds-walk q rule keeps w (text_first s f) h = (h.0, Holds-walk q rule keeps w f h.1)
Holds-walk q rule keeps w (elem_first e kids f) h =
    Holds-append q w (rule e (walk rule kids)) (walk rule f)
    (keeps w e (walk rule kids) h.0 (Holds-walk q rule keeps (q.inside w e.name) kids h.1)) (Holds-walk q rule keeps w f h.2)

Holds-text_joined : (q : Property) → ((w : q.Where) (s t : List ℕ) → q.text w s → q.text w t → q.text w (s ++ t))
    → (w : q.Where) (s : List ℕ) (f : Nodes) → q.text w s → Holds q w f → Holds q w (text_joined s f)
Holds-text_joined q joins w s no_nodes h k = (h, tt)
Holds-text_joined q joins w s (text_first t f) h k = (joins w s t h k.0, k.1)
Holds-text_joined q joins w s (elem_first e kids f) h k = (h, k)

-- joining texts keeps a property that holds of two texts joined where it holds of each
pub Holds-joined_nodes : (q : Property) → ((w : q.Where) (s t : List ℕ) → q.text w s → q.text w t → q.text w (s ++ t))
    → (w : q.Where) (f : Nodes) → Holds q w f → Holds q w (joined_nodes f)
Holds-joined_nodes q joins w no_nodes h = tt
Holds-joined_nodes q joins w (text_first s f) h = Holds-text_joined q joins w s (joined_nodes f) h.0 (Holds-joined_nodes q joins w f h.1)
Holds-joined_nodes q joins w (elem_first e kids f) h = (h.0, Holds-joined_nodes q joins (q.inside w e.name) kids h.1, Holds-joined_nodes q joins w f h.2)

-- the property of levels is the bound on the level
pub levels-test : (limit : ℕ) (at : Place) (f : Nodes) → level_in at f ≤ limit → Holds (levels limit) at f
levels-test limit at no_nodes h = tt
levels-test limit at (text_first s f) h = (tt, levels-test limit at f h)
levels-test limit at (elem_first e kids f) h =
    (omega (arith, h), levels-test limit (inside at e.name) kids (omega (arith, h)), levels-test limit at f (omega (arith, h)))

pub test-levels : (limit : ℕ) (at : Place) (f : Nodes) → Holds (levels limit) at f → level_in at f ≤ limit
test-levels limit at no_nodes h = omega arith
test-levels limit at (text_first s f) h = test-levels limit at f h.1
test-levels limit at (elem_first e kids f) h = omega (arith, h.0, test-levels limit (inside at e.name) kids h.1, test-levels limit at f h.2)

-- the property of soundness is its test
pub soundness-test : (f : Nodes) → is_sound f ≡ true → Holds soundness false f
soundness-test no_nodes h = tt
soundness-test (text_first s f) h = ((refl, some s (and_parts (nat_lt 0 (length s)) (is_sound f) h).0), soundness-test f (and_parts (nat_lt 0 (length s)) (is_sound f) h).1)
  where
    some : (s : List ℕ) → nat_lt 0 (length s) ≡ true → 0 < length s
    some [] h = absurd (cc)
    some (c ∷ s) h = omega arith
soundness-test (elem_first e kids f) h =
    let a = (and_parts (not (is_empty_element e.name) || has_no_nodes kids) (is_sound kids && is_sound f) h).0 in
    let b = (and_parts (not (is_empty_element e.name) || has_no_nodes kids) (is_sound kids && is_sound f) h).1 in
    (refl, closed_empty (is_empty_element e.name) kids a (soundness-test kids (and_parts (is_sound kids) (is_sound f) b).0), soundness-test f (and_parts (is_sound kids) (is_sound f) b).1)
  where
    closed_empty : (c : Bool) (k : Nodes) → (not c || has_no_nodes k) ≡ true → Holds soundness false k → Holds soundness c k
    closed_empty false k a h = h
    closed_empty true no_nodes a h = tt
    closed_empty true (text_first s k) a h = absurd (cc)
    closed_empty true (elem_first x y k) a h = absurd (cc)

pub test-soundness : (f : Nodes) → Holds soundness false f → is_sound f ≡ true
test-soundness no_nodes h = refl
test-soundness (text_first s f) h = and_from _ _ (some s h.0.1) (test-soundness f h.1)
  where
    some : (s : List ℕ) → 0 < length s → nat_lt 0 (length s) ≡ true
    some [] h = absurd (omega arith)
    some (c ∷ s) h = grind (arith, nat_tests)
test-soundness (elem_first e kids f) h = go (is_empty_element e.name) refl kids h.1 (λ k. test-soundness kids k) (test-soundness f h.2)
  where
    go : (c : Bool) → is_empty_element e.name ≡ c → (k : Nodes) → Holds soundness c k → (Holds soundness false k → is_sound k ≡ true) → is_sound f ≡ true
        → ((not (is_empty_element e.name) || has_no_nodes k) && (is_sound k && is_sound f)) ≡ true
    go false is k h r more = rw is (and_from _ _ (r h) more)
    go true is no_nodes h r more = rw is more
    go true is (text_first s k) h r more = absurd (cc h.0.0)
    go true is (elem_first x y k) h r more = absurd (cc h.0)

-- the property of what may be spelled is its test
pub spellable-test : (f : Nodes) → is_spellable f ≡ true → Holds spellable tt f
spellable-test no_nodes h = tt
spellable-test (text_first s f) h = ((and_parts _ (is_spellable f) h).0, spellable-test f (and_parts (list_all is_allowed s) _ h).1)
spellable-test (elem_first e kids f) h =
    let b = (and_parts (are_spellable e.attrs) (is_spellable kids && is_spellable f) h).1 in (
      (and_parts (are_spellable e.attrs) (is_spellable kids && is_spellable f) h).0,
      spellable-test kids (and_parts (is_spellable kids) (is_spellable f) b).0,
      spellable-test f (and_parts (is_spellable kids) (is_spellable f) b).1,
    )

pub test-spellable : (f : Nodes) → Holds spellable tt f → is_spellable f ≡ true
test-spellable no_nodes h = refl
test-spellable (text_first s f) h = and_from _ _ h.0 (test-spellable f h.1)
test-spellable (elem_first e kids f) h = and_from _ _ h.0 (and_from _ _ (test-spellable kids h.1) (test-spellable f h.2))

pub allowed-test : (f : Nodes) → has_allowed_characters f ≡ true → Holds allowed tt f
allowed-test no_nodes h = tt
allowed-test (text_first s f) h =
    ((and_parts _ (has_allowed_characters f) h).0, allowed-test f (and_parts (list_all is_allowed s) _ h).1)
allowed-test (elem_first e kids f) h =
    let b = (and_parts (has_allowed_values e.attrs) (has_allowed_characters kids && has_allowed_characters f) h).1 in (
      (and_parts (has_allowed_values e.attrs) (has_allowed_characters kids && has_allowed_characters f) h).0,
      allowed-test kids (and_parts (has_allowed_characters kids) (has_allowed_characters f) b).0,
      allowed-test f (and_parts (has_allowed_characters kids) (has_allowed_characters f) b).1,
    )

pub test-allowed : (f : Nodes) → Holds allowed tt f → has_allowed_characters f ≡ true
test-allowed no_nodes h = refl
test-allowed (text_first s f) h = and_from _ _ h.0 (test-allowed f h.1)
test-allowed (elem_first e kids f) h = and_from _ _ h.0 (and_from _ _ (test-allowed kids h.1) (test-allowed f h.2))

-- and so is that of distinct names
pub distinct-test : (f : Nodes) → has_distinct_names f ≡ true → Holds distinct tt f
distinct-test no_nodes h = tt
distinct-test (text_first s f) h = (tt, distinct-test f h)
distinct-test (elem_first e kids f) h =
    let here = and_parts (is_distinct e.attrs) (has_distinct_names kids && has_distinct_names f) h in
    let below = and_parts (has_distinct_names kids) (has_distinct_names f) here.1 in
    (here.0, distinct-test kids below.0, distinct-test f below.1)

pub test-distinct : (f : Nodes) → Holds distinct tt f → has_distinct_names f ≡ true
test-distinct no_nodes h = refl
test-distinct (text_first s f) h = test-distinct f h.1
test-distinct (elem_first e kids f) h = and_from _ _ h.0 (and_from _ _ (test-distinct kids h.1) (test-distinct f h.2))

longer : (s t : List ℕ) → 0 < length s → 0 < length (s ++ t)
longer s t h = omega (arith, h, length-append s t)

-- joining texts keeps soundness
pub sound-joined_nodes : (f : Nodes) → is_sound f ≡ true → is_sound (joined_nodes f) ≡ true
sound-joined_nodes f h = test-soundness (joined_nodes f) (Holds-joined_nodes soundness (λ w s t h k. (h.0, longer s t h.1)) false f (soundness-test f h))

-- joining texts keeps what may be spelled
pub spellable-joined_nodes : (f : Nodes) → is_spellable f ≡ true → is_spellable (joined_nodes f) ≡ true
spellable-joined_nodes f h =
    test-spellable (joined_nodes f) (Holds-joined_nodes spellable (λ w s t h k. list_all-append is_allowed s t ∙ and_from _ _ h k) tt f (spellable-test f h))

-- joining texts keeps what every forest keeps
pub IsForest-joined_nodes : (f : Nodes) → IsForest f → IsForest (joined_nodes f)
IsForest-joined_nodes f h = record { low = omega (arith, level-joined_nodes fragment f, h.low); sound = sound-joined_nodes f h.sound }

-- a walk keeps what every forest keeps, where its rule keeps levels and soundness
pub IsForest-walk : (rule : PlainElem → Nodes → Nodes)
    → ((at : Place) (e : PlainElem) (kids : Nodes) → (inside at e.name).level ≤ level_limit → Holds (levels level_limit) (inside at e.name) kids → Holds (levels level_limit) at (rule e kids))
    → ((closed : Bool) (e : PlainElem) (kids : Nodes) → closed ≡ false → Holds soundness (is_empty_element e.name) kids → Holds soundness closed (rule e kids))
    → (f : Nodes) → IsForest f → IsForest (walk rule f)
IsForest-walk rule low sound f h = record {
  low = test-levels level_limit fragment (walk rule f) (Holds-walk (levels level_limit) rule low fragment f (levels-test level_limit fragment f h.low));
  sound = test-soundness (walk rule f) (Holds-walk soundness rule sound false f (soundness-test f h.sound));
}
