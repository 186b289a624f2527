-- The letters of nodes, and their ids, one node after the other.
use Rattle.std.proofs.Common.{◌≡◌, ℕ, Bool, true, false, List, [], ◌∷◌, ◌++◌, refl, sym, ap, ◌∙◌, Some, None, if◌then◌else◌}
use Rattle.std.specs.Prelude.{◌&&◌, not}
use Rattle.pur_text.specs.Characters.{is_blank}
use Rattle.pur_modules.specs.declared.kinds.Child.TheVariants.{Text}
use Rattle.pur_attrlist.specs.Attributes.{Attribute, value_of}
use Rattle.pur_tree.specs.Nodes.{PlainElem, Nodes, text_first, elem_first}
use Rattle.pur_tree.specs.Words.{word_of}
use Rattle.std.proofs.Common.{codes}
use Rattle.pur_validity.specs.Attributes.{ids_in, ids_of, has_prefix}
use Rattle.pur_reader.specs.Private.Judging.{Seen, seen_behind, ids_right}
use Rattle.pur_reader.proofs.SeenLemmas.{ids_right-append, seen_behind-append}

pub text_letter : (b : Bool) (s : List ℕ) (n : Nodes) → b ≡ true → word_of b (text_first s n) ≡ Text ∷ word_of b n
text_letter true s n h = refl
text_letter false s n h = absurd (cc)

pub blank_or_not : (b : Bool) (s : List ℕ) (n : Nodes) (blank : Bool) → b ≡ false → is_blank s ≡ blank → word_of b (text_first s n) ≡ (if blank then word_of b n else Text ∷ word_of b n)
blank_or_not false s n blank h k = rw k refl
blank_or_not true s n blank h k = absurd (cc)

-- ids of an element
pub one_id : (attrs : List Attribute) (id : List ℕ) → Some id ≡ value_of attrs (codes "id") → ids_in attrs ≡ id ∷ []
one_id attrs id e = rw (← e) refl

pub no_id : (attrs : List Attribute) → None ≡ value_of attrs (codes "id") → ids_in attrs ≡ []
no_id attrs e = rw (← e) refl

-- an element in front of nodes: its own ids, those of its children, and those of the nodes
pub elem_ids : (prefix : List ℕ) (seen : Seen) (e : PlainElem) (k n : Nodes) → ids_right prefix seen (ids_of (elem_first e k n))
    ≡ (ids_right prefix seen (ids_in e.attrs) && (ids_right prefix (seen_behind seen (ids_in e.attrs)) (ids_of k) && ids_right prefix (seen_behind (seen_behind seen (ids_in e.attrs)) (ids_of k)) (ids_of n)))
elem_ids prefix seen e k n =
    ids_right-append prefix seen (ids_in e.attrs) (ids_of k ++ ids_of n)
    ∙ ap (λ b. ids_right prefix seen (ids_in e.attrs) && b) (ids_right-append prefix (seen_behind seen (ids_in e.attrs)) (ids_of k) (ids_of n))

pub elem_seen : (seen : Seen) (e : PlainElem) (k n : Nodes) → seen_behind seen (ids_of (elem_first e k n)) ≡ seen_behind (seen_behind (seen_behind seen (ids_in e.attrs)) (ids_of k)) (ids_of n)
elem_seen seen e k n = seen_behind-append seen (ids_in e.attrs) (ids_of k ++ ids_of n) ∙ seen_behind-append (seen_behind seen (ids_in e.attrs)) (ids_of k) (ids_of n)

-- an element whose own id is right: its children decide, and those behind it
pub elem_right : (prefix : List ℕ) (seen mid new : Seen) (e : PlainElem) (k n : Nodes) (inside : Bool) → ids_right prefix seen (ids_in e.attrs) ≡ true → mid ≡ seen_behind seen (ids_in e.attrs)
    → inside ≡ ids_right prefix mid (ids_of k) → (inside ≡ true → new ≡ seen_behind mid (ids_of k))
    → ids_right prefix seen (ids_of (elem_first e k n)) ≡ (inside && ids_right prefix new (ids_of n))
elem_right prefix seen mid new e k n inside own one right last =
    elem_ids prefix seen e k n
    ∙ ap (λ b. b && (ids_right prefix (seen_behind seen (ids_in e.attrs)) (ids_of k) && ids_right prefix (seen_behind (seen_behind seen (ids_in e.attrs)) (ids_of k)) (ids_of n))) own
    ∙ ap (λ s. ids_right prefix s (ids_of k) && ids_right prefix (seen_behind s (ids_of k)) (ids_of n)) (sym one)
    ∙ ap (λ b. b && ids_right prefix (seen_behind mid (ids_of k)) (ids_of n)) (sym right) ∙ go inside refl
  where
    go : (b : Bool) → inside ≡ b → (inside && ids_right prefix (seen_behind mid (ids_of k)) (ids_of n)) ≡ (inside && ids_right prefix new (ids_of n))
    go true e = ap (λ s. inside && ids_right prefix s (ids_of n)) (sym (last e))
    go false e = ap (λ b. b && ids_right prefix (seen_behind mid (ids_of k)) (ids_of n)) e ∙ sym (ap (λ b. b && ids_right prefix new (ids_of n)) e)

-- its own id
pub other_prefix : (prefix : List ℕ) (seen : Seen) (attrs : List Attribute) (id : List ℕ) → ids_in attrs ≡ id ∷ [] → has_prefix prefix id ≡ false → ids_right prefix seen (ids_in attrs) ≡ false
other_prefix prefix seen attrs id e h = ap (ids_right prefix seen) e ∙ ap (λ b. (b && not (seen id)) && true) h

pub seen_before : (prefix : List ℕ) (seen : Seen) (attrs : List Attribute) (id : List ℕ) → ids_in attrs ≡ id ∷ [] → has_prefix prefix id ≡ true → seen id ≡ true → ids_right prefix seen (ids_in attrs) ≡ false
seen_before prefix seen attrs id e h s = ap (ids_right prefix seen) e ∙ ap (λ b. (b && not (seen id)) && true) h ∙ ap (λ b. not b && true) s

pub fresh : (prefix : List ℕ) (seen : Seen) (attrs : List Attribute) (id : List ℕ) → ids_in attrs ≡ id ∷ [] → has_prefix prefix id ≡ true → seen id ≡ false → ids_right prefix seen (ids_in attrs) ≡ true
fresh prefix seen attrs id e h s = ap (ids_right prefix seen) e ∙ ap (λ b. (b && not (seen id)) && true) h ∙ ap (λ b. not b && true) s
