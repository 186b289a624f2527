use Rattle.std.proofs.Common.{◌≡◌, ℕ, List, [], ◌∷◌, ◌++◌, refl, ap, sym, ◌∙◌, Bool, true, false, ◌&&◌, ◌||◌, not, append_assoc, arith, ◌==◌}
use Rattle.std.proofs.lemmas.Bool.{and_parts, both_ways, ltb-true, not-true}
use Rattle.std.proofs.lemmas.List.{append_cancel_left}
use Rattle.pur_names.specs.declared.elements.Element.{Element}
use Rattle.pur_names.specs.Elements.{element_name}
use Rattle.pur_modules.specs.Contents.{is_empty_element}
use Rattle.pur_attrlist.specs.Attributes.{is_distinct}
use Rattle.pur_tree.specs.Nodes.{PlainElem, plain_elem, Nodes, no_nodes, text_first, elem_first, is_sound, is_joined, has_no_nodes, starts_with_text}
use Rattle.pur_tree.specs.Spelling.{start_tag_of, end_tag_of, empty_tag_of, attributes_text, are_spellable, spelling_of, is_spellable, Spells, spells_nothing, spells_text, spells_empty, spells_element}
use Rattle.pur_text.specs.Escapes.{escaped}
use Rattle.pur_tree.proofs.EscapeLemmas.{escape_front, no_tag_in_escaped, escaped_alike}
use Rattle.pur_names.proofs.ElementLaws.{element_name-distinct}
use Rattle.pur_tree.proofs.CutLemmas.{run_cut, is_stop, head_same, tail_same}
use Rattle.pur_tree.proofs.AttributeLemmas.{is_tag_end, tag_front, tag_no_closer, name_ends, attributes_cut}
use Rattle.pur_tree.proofs.NameLemmas.{is_name_end, name_runs, is_closer}
use Rattle.pur_tree.proofs.TokensLemmas.{none_of}

-- what is spelled is spelled as the spelling
pub spelling-spelled : {n : Nodes} {t : List ℕ} → Spells n t → spelling_of n ≡ t
spelling-spelled spells_nothing = refl
spelling-spelled (spells_text {c} {s} {rest} {t} plain alone more) = ap (λ u. escaped (c ∷ s) ++ u) (spelling-spelled more)
spelling-spelled (spells_empty {e} {rest} {t} empty good more) = rw empty (ap (λ u. empty_tag_of e ++ u) (spelling-spelled more))
spelling-spelled (spells_element {e} {kids} {rest} {u} {t} full good inner more) =
    rw full (ap (λ w. start_tag_of e ++ (w ++ (end_tag_of e.name ++ spelling_of rest))) (spelling-spelled inner)
    ∙ ap (λ w. start_tag_of e ++ (u ++ (end_tag_of e.name ++ w))) (spelling-spelled more))

-- joined nodes that may be spelled have a spelling
pub Spells-spelling : (n : Nodes) → is_sound n ≡ true → is_joined n ≡ true → is_spellable n ≡ true → Spells n (spelling_of n)
Spells-spelling no_nodes s j p = spells_nothing
Spells-spelling (text_first [] n) s j p = absurd (omega (arith, ltb-true 0 0 (and_parts _ (is_sound n) s).0))
Spells-spelling (text_first (c ∷ t) n) s j p =
    spells_text (and_parts _ _ p).0 (not-true _ (and_parts _ _ j).0) (Spells-spelling n (and_parts _ _ s).1 (and_parts _ _ j).1 (and_parts _ _ p).1)
Spells-spelling (elem_first e k n) s j p =
    go (is_empty_element e.name) refl (and_parts _ _ p).0 (Spells-spelling n (and_parts _ _ (and_parts _ _ s).1).1 (and_parts _ _ j).1 (and_parts _ _ (and_parts _ _ p).1).1)
    (Spells-spelling k (and_parts _ _ (and_parts _ _ s).1).0 (and_parts _ _ j).0 (and_parts _ _ (and_parts _ _ p).1).0)
  where
    go : (b : Bool) → is_empty_element e.name ≡ b → are_spellable e.attrs ≡ true → Spells n (spelling_of n) → Spells k (spelling_of k)
        → Spells (elem_first e k n) (spelling_of (elem_first e k n))
    go true h good more inner =
        let w = (and_parts (not (is_empty_element e.name) || has_no_nodes k) (is_sound k && is_sound n) s).0 in
        let kn : k ≡ no_nodes = none_of k (rw h at w) in
        rw (kn, h) (spells_empty h good more)
    go false h good more inner = rw h (spells_element h good inner more)

-- an element has a name of its own
pub same_named : (e d : Element) → element_name e ≡ element_name d → e ≡ d
same_named e d h = element_name-distinct e d h

-- what begins with something else than `<` is no closer
closer_head : (a : ℕ) (w : List ℕ) → (a == 60) ≡ false → is_closer (a ∷ w) ≡ false
closer_head a [] h = refl
closer_head a (b ∷ w) h = rw h refl

-- a written text that isn't empty, and what stands behind it, by their first character
pub record TextFront (c : ℕ) (s z : List ℕ) : Type 0 where
  pub head : ℕ
  pub tail : List ℕ
  pub is : escaped (c ∷ s) ++ z ≡ head ∷ tail
  pub no_tag : (head == 60) ≡ false

text_front : (c : ℕ) (s z : List ℕ) → TextFront c s z
unfolding escaped
text_front c s z = let f = escape_front c in record { head = f.head; tail = (f.tail ++ escaped s) ++ z; is = ap (λ e. (e ++ escaped s) ++ z) f.is; no_tag = f.no_tag }

text_is_no_closer : (c : ℕ) (s z : List ℕ) → is_closer (escaped (c ∷ s) ++ z) ≡ false
text_is_no_closer c s z = let f = text_front c s z in ap is_closer f.is ∙ closer_head f.head f.tail f.no_tag

-- what begins a tag
abbrev pub is_tag_start : ℕ → Bool
is_tag_start c = c == 60

closer_stops : (x : List ℕ) → is_closer x ≡ true → is_stop is_tag_start x ≡ true
closer_stops [] h = refl
closer_stops (a ∷ []) h = absurd (cc)
closer_stops (a ∷ b ∷ x) h = (and_parts (a == 60) (b == 47) h).0

-- a run of text ends where the text beside it ends
text_stops : {n : Nodes} {t : List ℕ} → Spells n t → (x : List ℕ) → starts_with_text n ≡ false → is_closer x ≡ true → is_stop is_tag_start (t ++ x) ≡ true
text_stops spells_nothing x h k = closer_stops x k
text_stops (spells_text {c} {s} {rest} {t} plain alone more) x h k = absurd (cc)
text_stops (spells_empty {e} {rest} {t} empty good more) x h k = refl
text_stops (spells_element {e} {kids} {rest} {u} {t} full good inner more) x h k = refl

-- an empty tag and what stands behind it, from its name on
empty_front : (e : PlainElem) (t y : List ℕ) → (empty_tag_of e ++ t) ++ y ≡ 60 ∷ (element_name e.name ++ (attributes_text e.attrs ++ (32 ∷ 47 ∷ 62 ∷ (t ++ y))))
empty_front e t y = tag_front (element_name e.name) (attributes_text e.attrs) (32 ∷ 47 ∷ 62 ∷ []) t y

-- a start tag and what stands behind it, from its name on
start_front : (e : PlainElem) (t y : List ℕ) → (start_tag_of e ++ t) ++ y ≡ 60 ∷ (element_name e.name ++ (attributes_text e.attrs ++ (62 ∷ (t ++ y))))
start_front e t y = tag_front (element_name e.name) (attributes_text e.attrs) (62 ∷ []) t y

same_elem : (e d : PlainElem) → e.name ≡ d.name → e.attrs ≡ d.attrs → e ≡ d
same_elem e d p q = ap (λ n. plain_elem n e.attrs) p ∙ ap (plain_elem d.name) q

-- two tags with one text are of one element, with the same behind it
tag_cut : (e d : PlainElem) (x y : List ℕ) → are_spellable e.attrs ≡ true → are_spellable d.attrs ≡ true → is_tag_end x ≡ true → is_tag_end y ≡ true
    → 60 ∷ (element_name e.name ++ (attributes_text e.attrs ++ x)) ≡ 60 ∷ (element_name d.name ++ (attributes_text d.attrs ++ y)) → (e ≡ d) × (x ≡ y)
tag_cut e d x y a b p q h =
    let r = run_cut is_name_end (element_name e.name) (element_name d.name) (attributes_text e.attrs ++ x) (attributes_text d.attrs ++ y)
    (name_runs e.name) (name_runs d.name) (name_ends e.attrs x p) (name_ends d.attrs y q) (tail_same 60 60 _ _ h) in
    let s = attributes_cut e.attrs d.attrs x y (and_parts _ (is_distinct e.attrs) a).0 (and_parts _ (is_distinct d.attrs) b).0 p q r.1 in
    (same_elem e d (same_named e.name d.name r.0) s.0, s.1)

-- no text begins with markup
text_begins_no_tag : {A : Type 0} (c : ℕ) (s z w : List ℕ) → escaped (c ∷ s) ++ z ≡ 60 ∷ w → A
text_begins_no_tag c s z w h =
    let f = text_front c s z in
    absurd (both_ways (f.head == 60) f.no_tag (rw (head_same f.head 60 f.tail w (sym f.is ∙ h)) refl))

-- an element in two readings: its children and what stands behind it
element_parts : (e : Element) (u t x : List ℕ) → (u ++ (end_tag_of e ++ t)) ++ x ≡ u ++ (end_tag_of e ++ (t ++ x))
element_parts e u t x = append_assoc u (end_tag_of e ++ t) x ∙ ap (λ z. u ++ z) (append_assoc (end_tag_of e) t x)

-- two spellings that begin one text, up to an end tag or the text's end, are of the same nodes
pub one_reading : {n : Nodes} {u : List ℕ} → Spells n u → {m : Nodes} {v : List ℕ} → Spells m v → (x y : List ℕ)
    → is_closer x ≡ true → is_closer y ≡ true → u ++ x ≡ v ++ y → (n ≡ m) × (x ≡ y)
one_reading spells_nothing spells_nothing x y p q h = (refl, h)
one_reading spells_nothing (spells_text {c} {s} {rest} {t} plain alone more) x y p q h =
    absurd (both_ways _ (ap is_closer h ∙ ap is_closer (append_assoc (escaped (c ∷ s)) t y) ∙ text_is_no_closer c s (t ++ y)) p)
one_reading spells_nothing (spells_empty {e} {rest} {t} empty good more) x y p q h =
    absurd (both_ways _ (ap is_closer (h ∙ empty_front e t y) ∙ tag_no_closer e (32 ∷ 47 ∷ 62 ∷ (t ++ y)) refl) p)
one_reading spells_nothing (spells_element {e} {kids} {rest} {u} {t} full good inner more) x y p q h =
    absurd (both_ways _ (ap is_closer (h ∙ start_front e (u ++ (end_tag_of e.name ++ t)) y) ∙ tag_no_closer e (62 ∷ ((u ++ (end_tag_of e.name ++ t)) ++ y)) refl) p)
one_reading (spells_text {c} {s} {rest} {t} plain alone more) spells_nothing x y p q h =
    absurd (both_ways _ (ap is_closer (sym h) ∙ ap is_closer (append_assoc (escaped (c ∷ s)) t x) ∙ text_is_no_closer c s (t ++ x)) q)
one_reading (spells_text {c} {s} {rest} {t} plain alone more) (spells_text {c = d} {s = r} {rest = back} {t = w} plain' alone' more') x y p q h =
    let cut = run_cut is_tag_start (escaped (c ∷ s)) (escaped (d ∷ r)) (t ++ x) (w ++ y) (no_tag_in_escaped (c ∷ s)) (no_tag_in_escaped (d ∷ r))
    (text_stops more x alone p) (text_stops more' y alone' q) (sym (append_assoc (escaped (c ∷ s)) t x) ∙ h ∙ append_assoc (escaped (d ∷ r)) w y) in
    let behind = one_reading more more' x y p q cut.1 in
    (ap (λ z. text_first z rest) (escaped_alike (c ∷ s) (d ∷ r) cut.0) ∙ ap (text_first (d ∷ r)) behind.0, behind.1)
one_reading (spells_text {c} {s} {rest} {t} plain alone more) (spells_empty {e} {rest = back} {t = w} empty good more') x y p q h =
    text_begins_no_tag c s (t ++ x) _ (sym (append_assoc (escaped (c ∷ s)) t x) ∙ h ∙ empty_front e w y)
one_reading (spells_text {c} {s} {rest} {t} plain alone more) (spells_element {e} {kids} {rest = back} {u} {t = w} full good inner more') x y p q h =
    text_begins_no_tag c s (t ++ x) _ (sym (append_assoc (escaped (c ∷ s)) t x) ∙ h ∙ start_front e (u ++ (end_tag_of e.name ++ w)) y)
one_reading (spells_empty {e} {rest} {t} empty good more) spells_nothing x y p q h =
    absurd (both_ways _ (ap is_closer (sym h ∙ empty_front e t x) ∙ tag_no_closer e (32 ∷ 47 ∷ 62 ∷ (t ++ x)) refl) q)
one_reading (spells_empty {e} {rest} {t} empty good more) (spells_text {c} {s} {rest = back} {t = w} plain alone more') x y p q h =
    text_begins_no_tag c s (w ++ y) _ (sym (append_assoc (escaped (c ∷ s)) w y) ∙ sym h ∙ empty_front e t x)
one_reading (spells_empty {e} {rest} {t} empty good more) (spells_empty {e = d} {rest = back} {t = w} empty' good' more') x y p q h =
    let cut = tag_cut e d (32 ∷ 47 ∷ 62 ∷ (t ++ x)) (32 ∷ 47 ∷ 62 ∷ (w ++ y)) good good' refl refl (sym (empty_front e t x) ∙ h ∙ empty_front d w y) in
    let behind = one_reading more more' x y p q (tail_same 62 62 _ _ (tail_same 47 47 _ _ (tail_same 32 32 _ _ cut.1))) in
    (ap (λ z. elem_first z no_nodes rest) cut.0 ∙ ap (elem_first d no_nodes) behind.0, behind.1)
one_reading (spells_empty {e} {rest} {t} empty good more) (spells_element {e = d} {kids} {rest = back} {u} {t = w} full good' inner more') x y p q h =
    let cut = tag_cut e d (32 ∷ 47 ∷ 62 ∷ (t ++ x)) (62 ∷ ((u ++ (end_tag_of d.name ++ w)) ++ y)) good good' refl refl
    (sym (empty_front e t x) ∙ h ∙ start_front d (u ++ (end_tag_of d.name ++ w)) y) in
    absurd (omega (arith, head_same _ _ _ _ cut.1))
one_reading (spells_element {e} {kids} {rest} {u} {t} full good inner more) spells_nothing x y p q h =
    absurd (both_ways _ (ap is_closer (sym h ∙ start_front e (u ++ (end_tag_of e.name ++ t)) x) ∙ tag_no_closer e (62 ∷ ((u ++ (end_tag_of e.name ++ t)) ++ x)) refl) q)
one_reading (spells_element {e} {kids} {rest} {u} {t} full good inner more) (spells_text {c} {s} {rest = back} {t = w} plain alone more') x y p q h =
    text_begins_no_tag c s (w ++ y) _ (sym (append_assoc (escaped (c ∷ s)) w y) ∙ sym h ∙ start_front e (u ++ (end_tag_of e.name ++ t)) x)
one_reading (spells_element {e} {kids} {rest} {u} {t} full good inner more) (spells_empty {e = d} {rest = back} {t = w} empty good' more') x y p q h =
    let cut = tag_cut e d (62 ∷ ((u ++ (end_tag_of e.name ++ t)) ++ x)) (32 ∷ 47 ∷ 62 ∷ (w ++ y)) good good' refl refl
    (sym (start_front e (u ++ (end_tag_of e.name ++ t)) x) ∙ h ∙ empty_front d w y) in
    absurd (omega (arith, head_same _ _ _ _ cut.1))
one_reading (spells_element {e} {kids} {rest} {u} {t} full good inner more) (spells_element {e = d} {kids = kids'} {rest = back} {u = v} {t = w} full' good' inner' more') x y p q h =
    let cut = tag_cut e d (62 ∷ ((u ++ (end_tag_of e.name ++ t)) ++ x)) (62 ∷ ((v ++ (end_tag_of d.name ++ w)) ++ y)) good good' refl refl
    (sym (start_front e (u ++ (end_tag_of e.name ++ t)) x) ∙ h ∙ start_front d (v ++ (end_tag_of d.name ++ w)) y) in
    let within = one_reading inner inner' (end_tag_of e.name ++ (t ++ x)) (end_tag_of d.name ++ (w ++ y)) refl refl
    (sym (element_parts e.name u t x) ∙ tail_same 62 62 _ _ cut.1 ∙ element_parts d.name v w y) in
    let behind = one_reading more more' x y p q
    (append_cancel_left (end_tag_of d.name) (t ++ x) (w ++ y) (ap (λ (z : PlainElem). end_tag_of z.name ++ (t ++ x)) (sym cut.0) ∙ within.1)) in
    (ap (λ z. elem_first z kids rest) cut.0 ∙ ap (λ z. elem_first d z rest) within.0 ∙ ap (elem_first d kids') behind.0, behind.1)

-- a text spells at most one list of nodes
pub Spells-unique : (n m : Nodes) (t : List ℕ) → Spells n t → Spells m t → n ≡ m
Spells-unique n m t a b = (one_reading a b [] [] refl refl refl).0
