-- Nodes as signs, and signs as nodes.
use Rattle.std.proofs.Common.{◌≡◌, ℕ, ◌+◌, ◌<◌, true, not, ◌&&◌, ◌||◌, List, [], ◌∷◌, ◌++◌, length, refl, sym, ap, ◌∙◌, arith, append_assoc, length-append}
use Rattle.std.specs.Prelude.{nat_lt}
use Rattle.std.specs.List.{list_all}
use Rattle.std.proofs.lemmas.Bool.{and_parts, and_from}
use Rattle.std.proofs.lemmas.List.{map-append}
use Rattle.pur_laws.proofs.Lists.{all-append}
use Rattle.pur_text.specs.Characters.{is_allowed}
use Rattle.pur_modules.specs.Contents.{is_empty_element}
use Rattle.pur_tree.specs.Nodes.{PlainElem, Nodes, no_nodes, text_first, elem_first, is_joined, is_sound, starts_with_text, has_no_nodes}
use Rattle.pur_tree.specs.Properties.{Property, Holds, soundness, allowed}
use Rattle.pur_tree.specs.Walks.{text_joined, count_in_text}
use Rattle.pur_tree.proofs.WalkLemmas.{text_joined-append, count_in_text-text_joined}
use Rattle.pur_attrlist.specs.Texts.{times}
use Rattle.pur_inject.specs.Signs.{Sign, letter, element, blank_line, letters, signs_of, sign_before, signs_before, nodes_from, two_line_feeds}
use Rattle.pur_inject.proofs.RunLemmas.{Each, each-append}

pub before-append : (l m : List Sign) (more : Nodes) → signs_before (l ++ m) more ≡ signs_before l (signs_before m more)
before-append [] m more = refl
before-append (x ∷ l) m more = ap (sign_before x) (before-append l m more)

-- a text in front of nodes
pub letters-before : (c : ℕ) (s : List ℕ) (more : Nodes) → signs_before (letters (c ∷ s)) more ≡ text_joined (c ∷ s) more
letters-before c [] more = refl
letters-before c (d ∷ s) more = ap (text_joined (c ∷ [])) (letters-before d s more) ∙ sym (text_joined-append (c ∷ []) (d ∷ s) more)

-- in front of an element, and of nothing, it is a text by itself
pub letters-elem : (s : List ℕ) (e : PlainElem) (kids more : Nodes) → 0 < length s → signs_before (letters s) (elem_first e kids more) ≡ text_first s (elem_first e kids more)
letters-elem [] e kids more some = absurd (omega arith)
letters-elem (c ∷ s) e kids more some = letters-before c s (elem_first e kids more)

pub letters-none : (s : List ℕ) → 0 < length s → nodes_from (letters s) ≡ text_first s no_nodes
letters-none [] some = absurd (omega arith)
letters-none (c ∷ s) some = letters-before c s no_nodes

signs-joined : (s : List ℕ) (f : Nodes) → signs_of (text_joined s f) ≡ letters s ++ signs_of f
signs-joined s no_nodes = refl
signs-joined s (text_first t f) = ap (λ l. l ++ signs_of f) (map-append letter s t) ∙ append_assoc (letters s) (letters t) (signs_of f)
signs-joined s (elem_first e kids f) = refl

-- signs with line feeds in place of blank lines
abbrev pub spelled : List Sign → List Sign
spelled [] = []
spelled (letter c ∷ l) = letter c ∷ spelled l
spelled (element e kids ∷ l) = element e kids ∷ spelled l
spelled (blank_line ∷ l) = letter 0xA ∷ letter 0xA ∷ spelled l

pub spelled-append : (l m : List Sign) → spelled (l ++ m) ≡ spelled l ++ spelled m
spelled-append [] m = refl
spelled-append (letter c ∷ l) m = ap (λ t. letter c ∷ t) (spelled-append l m)
spelled-append (element e kids ∷ l) m = ap (λ t. element e kids ∷ t) (spelled-append l m)
spelled-append (blank_line ∷ l) m = ap (λ t. letter 0xA ∷ letter 0xA ∷ t) (spelled-append l m)

-- the signs of the nodes of signs
pub signs-from : (l : List Sign) → signs_of (nodes_from l) ≡ spelled l
signs-from [] = refl
signs-from (letter c ∷ l) = signs-joined (c ∷ []) (nodes_from l) ∙ ap (λ t. letter c ∷ t) (signs-from l)
signs-from (element e kids ∷ l) = ap (λ t. element e kids ∷ t) (signs-from l)
signs-from (blank_line ∷ l) = signs-joined two_line_feeds (nodes_from l) ∙ ap (λ t. letter 0xA ∷ letter 0xA ∷ t) (signs-from l)

pub before-spelled : (l : List Sign) (f : Nodes) → signs_before (spelled l) f ≡ signs_before l f
before-spelled [] f = refl
before-spelled (letter c ∷ l) f = ap (text_joined (c ∷ [])) (before-spelled l f)
before-spelled (element e kids ∷ l) f = ap (elem_first e kids) (before-spelled l f)
before-spelled (blank_line ∷ l) f =
    ap (λ f. text_joined (0xA ∷ []) (text_joined (0xA ∷ []) f)) (before-spelled l f) ∙ sym (text_joined-append (0xA ∷ []) (0xA ∷ []) (signs_before l f))

-- nodes of which no texts are neighbours, and none is empty, are the nodes of their signs
alone : (s : List ℕ) (f : Nodes) → 0 < length s → not (starts_with_text f) ≡ true → signs_before (letters s) f ≡ text_first s f
alone s no_nodes some apart = letters-none s some
alone s (text_first t f) some apart = absurd (cc)
alone s (elem_first e kids f) some apart = letters-elem s e kids f some

pub from-signs : (n : Nodes) → is_sound n ≡ true → is_joined n ≡ true → nodes_from (signs_of n) ≡ n
from-signs no_nodes sound joined = refl
from-signs (text_first [] n) sound joined = absurd (cc)
from-signs (text_first (c ∷ s) n) sound joined =
    let rest = and_parts (nat_lt 0 (length (c ∷ s))) (is_sound n) sound in
    let both = and_parts (not (starts_with_text n)) (is_joined n) joined in
    before-append (letters (c ∷ s)) (signs_of n) no_nodes
    ∙ ap (signs_before (letters (c ∷ s))) (from-signs n rest.1 both.1)
    ∙ alone (c ∷ s) n (omega arith) both.0
from-signs (elem_first e kids n) sound joined =
    let rest = and_parts (not (is_empty_element e.name) || has_no_nodes kids) (is_sound kids && is_sound n) sound in
    ap (elem_first e kids) (from-signs n (and_parts (is_sound kids) (is_sound n) rest.1).1 (and_parts (is_joined kids) (is_joined n) joined).1)

-- ---- what is counted adds up

one : (c : ℕ) (x : Sign) (f : Nodes) → count_in_text c (sign_before x f) ≡ count_in_text c (nodes_from (x ∷ [])) + count_in_text c f
one c (letter d) f = omega (arith, count_in_text-text_joined c (d ∷ []) f)
one c (element e kids) f = omega arith
one c blank_line f = omega (arith, count_in_text-text_joined c two_line_feeds f)

pub count-before : (c : ℕ) (l : List Sign) (f : Nodes) → count_in_text c (signs_before l f) ≡ count_in_text c (nodes_from l) + count_in_text c f
count-before c [] f = omega arith
count-before c (x ∷ l) f = omega (arith, one c x (signs_before l f), one c x (nodes_from l), count-before c l f)

pub count-adds : (c : ℕ) (l m : List Sign) → count_in_text c (nodes_from (l ++ m)) ≡ count_in_text c (nodes_from l) + count_in_text c (nodes_from m)
count-adds c l m = ap (count_in_text c) (before-append l m no_nodes) ∙ count-before c l (nodes_from m)

pub count-letters : (c : ℕ) (s : List ℕ) → count_in_text c (nodes_from (letters s)) ≡ times c s
count-letters c [] = refl
count-letters c (d ∷ s) = ap (count_in_text c) (letters-before d s no_nodes) ∙ omega arith

-- the signs of nodes count as the nodes
pub count-signs : (c : ℕ) (n : Nodes) → count_in_text c (nodes_from (signs_of n)) ≡ count_in_text c n
count-signs c no_nodes = refl
count-signs c (text_first s n) = omega (arith, count-adds c (letters s) (signs_of n), count-letters c s, count-signs c n)
count-signs c (elem_first e kids n) = omega (arith, count-signs c n)

-- ---- no texts are neighbours

abbrev pub JoinedInside : Sign → Type 0
JoinedInside (letter c) = Unit {0}
JoinedInside (element e kids) = is_joined kids ≡ true
JoinedInside blank_line = Unit {0}

text-joined : (s : List ℕ) (f : Nodes) → is_joined f ≡ true → is_joined (text_joined s f) ≡ true
text-joined s no_nodes h = refl
text-joined s (text_first t f) h = h
text-joined s (elem_first e kids f) h = h

pub from-joined : (l : List Sign) → Each JoinedInside l → is_joined (nodes_from l) ≡ true
from-joined [] h = refl
from-joined (letter c ∷ l) h = text-joined (c ∷ []) (nodes_from l) (from-joined l h.1)
from-joined (element e kids ∷ l) h = and_from _ _ h.0 (from-joined l h.1)
from-joined (blank_line ∷ l) h = text-joined two_line_feeds (nodes_from l) (from-joined l h.1)

pub letters-each : (Q : Sign → Type 0) → ((c : ℕ) → Q (letter c)) → (s : List ℕ) → Each Q (letters s)
letters-each Q all [] = tt
letters-each Q all (c ∷ s) = (all c, letters-each Q all s)

pub joined-signs : (n : Nodes) → is_joined n ≡ true → Each JoinedInside (signs_of n)
joined-signs no_nodes h = tt
joined-signs (text_first s n) h =
    each-append JoinedInside (letters s) (signs_of n) (letters-each JoinedInside (λ c. tt) s) (joined-signs n (and_parts (not (starts_with_text n)) (is_joined n) h).1)
joined-signs (elem_first e kids n) h = let both = and_parts (is_joined kids) (is_joined n) h in (both.0, joined-signs n both.1)

-- ---- what holds at every depth

module _ (q : Property) (w : q.Where) where
  abbrev pub OfSign : Sign → Type 0
  OfSign (letter c) = q.text w (c ∷ [])
  OfSign (element e kids) = q.elem w e × Holds q (q.inside w e.name) kids
  OfSign blank_line = q.text w two_line_feeds

  text-holds : ((s t : List ℕ) → q.text w s → q.text w t → q.text w (s ++ t)) → (s : List ℕ) (f : Nodes) → q.text w s → Holds q w f → Holds q w (text_joined s f)
  text-holds joins s no_nodes h k = (h, tt)
  text-holds joins s (text_first t f) h k = (joins s t h k.0, k.1)
  text-holds joins s (elem_first e kids f) h k = (h, k)

  pub signs-hold : ((s t : List ℕ) → q.text w s → q.text w t → q.text w (s ++ t)) → (l : List Sign) → Each OfSign l → Holds q w (nodes_from l)
  signs-hold joins [] h = tt
  signs-hold joins (letter c ∷ l) h = text-holds joins (c ∷ []) (nodes_from l) h.0 (signs-hold joins l h.1)
  signs-hold joins (element e kids ∷ l) h = (h.0.0, h.0.1, signs-hold joins l h.1)
  signs-hold joins (blank_line ∷ l) h = text-holds joins two_line_feeds (nodes_from l) h.0 (signs-hold joins l h.1)

  pub hold-signs : ((s : List ℕ) → q.text w s → Each OfSign (letters s)) → (n : Nodes) → Holds q w n → Each OfSign (signs_of n)
  hold-signs parts no_nodes h = tt
  hold-signs parts (text_first s n) h = each-append OfSign (letters s) (signs_of n) (parts s h.0) (hold-signs parts n h.1)
  hold-signs parts (elem_first e kids n) h = ((h.0, h.1), hold-signs parts n h.2)

-- what holds of a text holds of its characters, and what holds of two texts holds of both together
pub record TextProperty (q : Property) : Type 0 where
  pub joins : (w : q.Where) (s t : List ℕ) → q.text w s → q.text w t → q.text w (s ++ t)
  pub parts : (w : q.Where) (s : List ℕ) → q.text w s → Each (OfSign q w) (letters s)

-- what holds of each text
pub quiet : (q : Property) → ((w : q.Where) (s : List ℕ) → q.text w s) → TextProperty q
quiet q all = record { joins = λ w s t a b. all w (s ++ t); parts = λ w s a. letters-each (OfSign q w) (λ c. all w (c ∷ [])) s }

pub sound-text : TextProperty soundness
sound-text = record {
  joins = λ w s t a b. (a.0, longer s t a.1);
  parts = λ w s a. letters-each (OfSign soundness w) (λ c. (a.0, omega arith)) s;
}
  where
    longer : (s t : List ℕ) → 0 < length s → 0 < length (s ++ t)
    longer s t h = omega (arith, h, length-append s t)

pub allowed-text : TextProperty allowed
allowed-text = record { joins = λ w s t a b. all-append is_allowed s t a b; parts = parts } where
  parts : (w : Unit {0}) (s : List ℕ) → list_all is_allowed s ≡ true → Each (OfSign allowed w) (letters s)
  parts w [] all = tt
  parts w (c ∷ s) all = let both = and_parts (is_allowed c) (list_all is_allowed s) all in (and_from _ _ both.0 refl, parts w s both.1)

pub whole : (q : Property) (texts : TextProperty q) (w : q.Where) (c : ℕ) (s : List ℕ) → Each (OfSign q w) (letters (c ∷ s)) → q.text w (c ∷ s)
whole q texts w c [] h = h.0
whole q texts w c (d ∷ s) h = texts.joins w (c ∷ []) (d ∷ s) h.0 (whole q texts w d s h.1)
