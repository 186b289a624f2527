use Rattle.std.proofs.Common.{◌≡◌, ℕ, suc, ◌<◌, List, [], ◌∷◌, ◌++◌, length, refl, ap, sym, subst, ◌∙◌, Bool, true, false, ◌⊎◌, inl, inr, ◌&&◌, ◌||◌, not, arith, append_assoc, append-nil}
use Rattle.std.proofs.lemmas.Bool.{and_from, and_parts, lt-ltb}
use Rattle.pur_laws.proofs.Truth.{and_false, or_true}
use Rattle.pur_names.specs.declared.elements.Element.{Element}
use Rattle.pur_tree.specs.declared.node.Node.{Node}
use Rattle.pur_tree.specs.declared.builder.Outer.{Outer}
use Rattle.pur_modules.specs.Contents.{is_empty_element}
use Rattle.pur_tree.specs.Nodes.{PlainElem, Nodes, no_nodes, text_first, elem_first, nodes_append, is_sound, is_joined, has_no_nodes, starts_with_text}
use Rattle.pur_tree.specs.Image.{nodes_of}
use Rattle.pur_tree.specs.Building.{elem_of, finished, opened_by, written_before, closings_of, can_hold, last_of, ends_with_text, text_nodes, Fits, IsBuilding}
use Rattle.pur_tree.specs.Places.{Place, fragment, inside, inside_all, LevelFits}
use Rattle.pur_tree.specs.Tokens.{Token, begins_with_text, closing_of, joined, opening_of, text_token, tokens_of_nodes}
use Rattle.pur_tree.proofs.NodesLemmas.{tokens-append, level-append, nodes_append-none, sound-append, sound_front, sound_back, joined-append, joined_front, joined_back}
use Rattle.pur_tree.proofs.TokensLemmas.{joined-tokens, joined-opening, opening_is_no_text}

-- an element with what stands before it
abbrev pub with_open : Outer → Nodes → Nodes
with_open o kids = nodes_append (nodes_of o.before.items) (elem_first (elem_of o) kids no_nodes)

pub finished-more : (os : List Outer) (o : Outer) (kids : Nodes) → finished (os ++ (o ∷ [])) kids ≡ finished os (with_open o kids)
finished-more [] o kids = refl
finished-more (p ∷ os) o kids = ap (with_open p) (finished-more os o kids)

pub written_before-more : (os : List Outer) (o : Outer)
    → written_before (os ++ (o ∷ [])) ≡ written_before os ++ (tokens_of_nodes (nodes_of o.before.items) ++ (opening_of (elem_of o) ∷ []))
written_before-more [] o = refl
written_before-more (p ∷ os) o =
    ap (λ ts. tokens_of_nodes (nodes_of p.before.items) ++ (opening_of (elem_of p) ∷ ts)) (written_before-more os o)
    ∙ sym (append_assoc (tokens_of_nodes (nodes_of p.before.items)) (opening_of (elem_of p) ∷ written_before os) (tokens_of_nodes (nodes_of o.before.items) ++ (opening_of (elem_of o) ∷ [])))

pub opened_by-more : (os : List Outer) (o : Outer) → opened_by (os ++ (o ∷ [])) ≡ opened_by os ++ (o.name ∷ [])
opened_by-more [] o = refl
opened_by-more (p ∷ os) o = ap (λ es. p.name ∷ es) (opened_by-more os o)

pub length-opened_by : (os : List Outer) → length (opened_by os) ≡ length os
length-opened_by [] = refl
length-opened_by (o ∷ os) = ap suc (length-opened_by os)

pub closings_of-more : (es : List Element) (e : Element) → closings_of (es ++ (e ∷ [])) ≡ closing_of e ++ closings_of es
closings_of-more [] e = sym (append-nil (closing_of e))
closings_of-more (d ∷ es) e = ap (λ ts. ts ++ closing_of d) (closings_of-more es e) ∙ append_assoc (closing_of e) (closings_of es) (closing_of d)

regroup : (a w k c z : List Token) (o : Token) → a ++ (o ∷ ((w ++ (k ++ c)) ++ (z ++ []))) ≡ (a ++ (o ∷ w)) ++ (k ++ (c ++ z))
regroup a w k c z o = simp (append_assoc, append-nil)

-- what is written so far, and then what closes the open elements, writes out the finished nodes
pub tokens-finished : (os : List Outer) (kids : Nodes)
    → tokens_of_nodes (finished os kids) ≡ written_before os ++ (tokens_of_nodes kids ++ closings_of (opened_by os))
tokens-finished [] kids = sym (append-nil (tokens_of_nodes kids))
tokens-finished (o ∷ os) kids =
    tokens-append (nodes_of o.before.items) (elem_first (elem_of o) (finished os kids) no_nodes)
    ∙ ap (λ ts. tokens_of_nodes (nodes_of o.before.items) ++ (opening_of (elem_of o) ∷ (ts ++ (closing_of o.name ++ [])))) (tokens-finished os kids)
    ∙ regroup (tokens_of_nodes (nodes_of o.before.items)) (written_before os) (tokens_of_nodes kids) (closings_of (opened_by os)) (closing_of o.name) (opening_of (elem_of o))

can_hold-tail : (e : Element) (es : List Element) → can_hold (e ∷ es) ≡ true → can_hold es ≡ true
can_hold-tail e [] h = refl
can_hold-tail e (f ∷ es) h = h

-- what is known of nodes below one parent, of those in front and of those behind
pub Fits_front : (at : Place) (f g : Nodes) → Fits at (nodes_append f g) → Fits at f
Fits_front at f g h = record { low = omega (arith, level-append at f g, h.low); sound = sound_front f g h.sound; joined = joined_front f g h.joined }

pub Fits_back : (at : Place) (f g : Nodes) → Fits at (nodes_append f g) → Fits at g
Fits_back at f g h = record { low = omega (arith, level-append at f g, h.low); sound = sound_back f g h.sound; joined = joined_back f g h.joined }

pub Fits-append : (at : Place) (f g : Nodes) → starts_with_text g ≡ false → Fits at f → Fits at g → Fits at (nodes_append f g)
Fits-append at f g s p q = record { low = omega (arith, level-append at f g, p.low, q.low); sound = sound-append f g p.sound q.sound; joined = joined-append f g s p.joined q.joined }

-- the children of an element that fits
pub Fits_children : (at : Place) (e : PlainElem) (k f : Nodes) → Fits at (elem_first e k f) → Fits (inside at e.name) k
Fits_children at e k f h = record { low = omega (arith, h.low); sound = (and_parts _ _ (and_parts _ _ h.sound).1).0; joined = (and_parts _ _ h.joined).0 }

-- a node stands among finished nodes wherever an element is open
finished_has_nodes : (o : Outer) (os : List Outer) (kids : Nodes) → has_no_nodes (finished (o ∷ os) kids) ≡ false
finished_has_nodes o os kids = go (nodes_of o.before.items)
  where
    go : (f : Nodes) → has_no_nodes (nodes_append f (elem_first (elem_of o) (finished os kids) no_nodes)) ≡ false
    go no_nodes = refl
    go (text_first s f) = refl
    go (elem_first e k f) = refl

-- an open element may go on holding what is below it where the innermost one may hold the new children
holds : (e : Element) (os : List Outer) (a b : Nodes) → (has_no_nodes b ≡ false → (can_hold (e ∷ opened_by os) ≡ true) ⊎ (has_no_nodes a ≡ false))
    → (not (is_empty_element e) || has_no_nodes (finished os a)) ≡ true → (not (is_empty_element e) || has_no_nodes (finished os b)) ≡ true
holds e [] a b h p = go (has_no_nodes b) refl
  where
    go : (x : Bool) → has_no_nodes b ≡ x → (not (is_empty_element e) || has_no_nodes b) ≡ true
    go true q = rw q (or_true (not (is_empty_element e)))
    go false q = elim (h q) [ inl w ↦ rw w refl | inr w ↦ rw q (rw w at p) ]
holds e (o ∷ os) a b h p = rw (finished_has_nodes o os b) (rw (finished_has_nodes o os a) at p)

-- finished nodes go on fitting where the innermost children go on fitting in their place, and may be held
pub Fits-finished : (os : List Outer) (at : Place) (a b : Nodes) → (Fits (inside_all at (opened_by os)) a → Fits (inside_all at (opened_by os)) b)
    → (has_no_nodes b ≡ false → (can_hold (opened_by os) ≡ true) ⊎ (has_no_nodes a ≡ false)) → Fits at (finished os a) → Fits at (finished os b)
Fits-finished [] at a b f h p = f p
Fits-finished (o ∷ os) at a b f h p =
    let back = Fits_back at (nodes_of o.before.items) (elem_first (elem_of o) (finished os a) no_nodes) p in
    let inner : Fits (inside at o.name) (finished os b) =
    Fits-finished os (inside at o.name) a b f (λ x. elim (h x) [ inl w ↦ inl (can_hold-tail o.name (opened_by os) w) | inr w ↦ inr w ]) (Fits_children at (elem_of o) (finished os a) no_nodes back) in
    Fits-append at (nodes_of o.before.items) (elem_first (elem_of o) (finished os b) no_nodes) refl
    (Fits_front at (nodes_of o.before.items) (elem_first (elem_of o) (finished os a) no_nodes) p)
    (record {
      low = omega (arith, back.low, inner.low);
      sound = and_from _ _ (holds o.name os a b h (and_parts _ _ back.sound).0) (and_from _ _ inner.sound refl);
      joined = and_from _ _ inner.joined refl;
    })

-- a text behind nodes that don't end with one stays by itself
joined-append_text : (f : Nodes) (s : List ℕ) → ends_with_text f ≡ false → is_joined f ≡ true → is_joined (nodes_append f (text_first s no_nodes)) ≡ true
joined-append_text no_nodes s e j = refl
joined-append_text (text_first t no_nodes) s e j = absurd (cc)
joined-append_text (text_first t (text_first u f)) s e j = absurd (cc)
joined-append_text (text_first t (elem_first x k f)) s e j = joined-append_text (elem_first x k f) s e j
joined-append_text (elem_first x k f) s e j = and_from _ _ (and_parts _ _ j).0 (joined-append_text f s e (and_parts _ _ j).1)

text_is_sound : (c : ℕ) (s : List ℕ) → is_sound (text_first (c ∷ s) no_nodes) ≡ true
text_is_sound c s = and_from _ _ (lt-ltb 0 (suc (length s)) (omega arith)) refl

-- nodes that don't end with a text go on fitting with a text behind them
Fits-append_text : (at : Place) (f : Nodes) (c : ℕ) (s : List ℕ) → ends_with_text f ≡ false → Fits at f → Fits at (nodes_append f (text_first (c ∷ s) no_nodes))
Fits-append_text at f c s e p = record {
  low = omega (arith, level-append at f (text_first (c ∷ s) no_nodes), p.low);
  sound = sound-append f (text_first (c ∷ s) no_nodes) p.sound (text_is_sound c s);
  joined = joined-append_text f (c ∷ s) e p.joined;
}

-- more text at the end of nodes that fit
pub Fits-text : (at : Place) (f : Nodes) (t s : List ℕ) → ends_with_text f ≡ false → 0 < length s
    → Fits at (nodes_append f (text_nodes t)) → Fits at (nodes_append f (text_nodes (t ++ s)))
Fits-text at f [] [] e h p = absurd (omega arith)
Fits-text at f [] (c ∷ s) e h p = Fits-append_text at f c s e (Fits_front at f no_nodes p)
Fits-text at f (c ∷ t) s e h p = Fits-append_text at f c (t ++ s) e (Fits_front at f (text_first (c ∷ t) no_nodes) p)

-- what was written before the innermost children joins nothing
pub joined-written_before : (at : Place) (os : List Outer) (kids : Nodes) (x : List Token) → Fits at (finished os kids)
    → joined (written_before os ++ x) ≡ written_before os ++ joined x
joined-written_before at [] kids x p = refl
joined-written_before at (o ∷ os) kids x p =
    let before = nodes_of o.before.items in
    let front = Fits_front at before (elem_first (elem_of o) (finished os kids) no_nodes) p in
    let inner = Fits_children at (elem_of o) (finished os kids) no_nodes (Fits_back at before (elem_first (elem_of o) (finished os kids) no_nodes) p) in
    ap joined (append_assoc (tokens_of_nodes before) (opening_of (elem_of o) ∷ written_before os) x)
    ∙ joined-tokens before (opening_of (elem_of o) ∷ (written_before os ++ x)) front.joined front.sound
    (ap (λ b. ends_with_text before && b) (opening_is_no_text (elem_of o) (written_before os ++ x)) ∙ and_false (ends_with_text before))
    ∙ ap (λ ts. tokens_of_nodes before ++ ts) (joined-opening (elem_of o) (written_before os ++ x) ∙ ap (λ ts. opening_of (elem_of o) ∷ ts) (joined-written_before (inside at o.name) os kids x inner))
    ∙ sym (append_assoc (tokens_of_nodes before) (opening_of (elem_of o) ∷ written_before os) (joined x))

text_joins : (t s : List ℕ) → 0 < length s → joined (tokens_of_nodes (text_nodes t) ++ (text_token s ∷ [])) ≡ tokens_of_nodes (text_nodes (t ++ s))
text_joins [] [] h = absurd (omega arith)
text_joins [] (c ∷ s) h = refl
text_joins (c ∷ t) s h = refl

-- a text that is written joins the text before it
pub written-text : (os : List Outer) (f : Nodes) (t s : List ℕ) → ends_with_text f ≡ false → 0 < length s
    → Fits fragment (finished os (nodes_append f (text_nodes t))) → Fits (inside_all fragment (opened_by os)) (nodes_append f (text_nodes t))
    → written_before os ++ tokens_of_nodes (nodes_append f (text_nodes (t ++ s)))
    ≡ joined ((written_before os ++ tokens_of_nodes (nodes_append f (text_nodes t))) ++ (text_token s ∷ []))
written-text os f t s e h p q =
    let old = text_nodes t in
    let front = Fits_front (inside_all fragment (opened_by os)) f old q in
    sym (ap joined (append_assoc (written_before os) (tokens_of_nodes (nodes_append f old)) (text_token s ∷ []))
    ∙ joined-written_before fragment os (nodes_append f old) (tokens_of_nodes (nodes_append f old) ++ (text_token s ∷ [])) p
    ∙ ap (λ ts. written_before os ++ joined (ts ++ (text_token s ∷ []))) (tokens-append f old)
    ∙ ap (λ ts. written_before os ++ joined ts) (append_assoc (tokens_of_nodes f) (tokens_of_nodes old) (text_token s ∷ []))
    ∙ ap (λ ts. written_before os ++ ts) (joined-tokens f (tokens_of_nodes old ++ (text_token s ∷ [])) front.joined front.sound (ap (λ b. b && begins_with_text (tokens_of_nodes old ++ (text_token s ∷ []))) e))
    ∙ ap (λ ts. written_before os ++ (tokens_of_nodes f ++ ts)) (text_joins t s h)
    ∙ ap (λ ts. written_before os ++ ts) (sym (tokens-append f (text_nodes (t ++ s)))))

-- the children of the innermost open element fit in their place
pub Fits_innermost : (at : Place) (os : List Outer) (kids : Nodes) → Fits at (finished os kids) → Fits (inside_all at (opened_by os)) kids
Fits_innermost at [] kids p = p
Fits_innermost at (o ∷ os) kids p =
    Fits_innermost (inside at o.name) os kids (Fits_children at (elem_of o) (finished os kids) no_nodes (Fits_back at (nodes_of o.before.items) (elem_first (elem_of o) (finished os kids) no_nodes) p))

-- opening an element keeps what every builder keeps
pub IsBuilding-enter : (os : List Outer) (o : Outer) (cs : List Node) (t : List ℕ) → IsBuilding (os, cs, t) → LevelFits (opened_by os) o.name
    → can_hold (opened_by os) ≡ true → nodes_of o.before.items ≡ nodes_append (nodes_of cs) (text_nodes t) → IsBuilding (os ++ (o ∷ []), [], [])
IsBuilding-enter os o cs t b low holds same = record {
  fits = rw (finished-more os o no_nodes, same)
      (Fits-finished os fragment (nodes_append (nodes_of cs) (text_nodes t)) (nodes_append (nodes_append (nodes_of cs) (text_nodes t)) (elem_first (elem_of o) no_nodes no_nodes))
      (λ p. Fits-append (inside_all fragment (opened_by os)) (nodes_append (nodes_of cs) (text_nodes t)) (elem_first (elem_of o) no_nodes no_nodes) refl p
      (record { low = omega (arith, low); sound = rw (or_true (not (is_empty_element o.name))) refl; joined = refl }))
      (λ q. inl holds) b.fits);
  ended = refl;
}

-- where there are nodes in front there are nodes
has_nodes-append : (f g : Nodes) → has_no_nodes f ≡ false → has_no_nodes (nodes_append f g) ≡ false
has_nodes-append no_nodes g h = absurd (cc)
has_nodes-append (text_first s f) g h = refl
has_nodes-append (elem_first e k f) g h = refl

-- nodes behind which an element stands don't end with a text
ends-append_elem : (f : Nodes) (e : PlainElem) (k : Nodes) → ends_with_text (nodes_append f (elem_first e k no_nodes)) ≡ false
ends-append_elem no_nodes e k = refl
ends-append_elem (text_first s no_nodes) e k = refl
ends-append_elem (text_first s (text_first u f)) e k = ends-append_elem (text_first u f) e k
ends-append_elem (text_first s (elem_first d j f)) e k = ends-append_elem f e k
ends-append_elem (elem_first d j f) e k = ends-append_elem f e k

-- a builder whose innermost children are lost
pub IsBuilding-lost : (os : List Outer) (cs : List Node) (t : List ℕ) → IsBuilding (os, cs, t) → IsBuilding (os, [], [])
IsBuilding-lost os cs t b = record {
  fits = Fits-finished os fragment (nodes_append (nodes_of cs) (text_nodes t)) no_nodes
      (λ p. record { low = omega arith; sound = refl; joined = refl }) (λ q. absurd (cc)) b.fits;
  ended = refl;
}

-- a builder whose last text is lost
pub IsBuilding-untold : (os : List Outer) (cs : List Node) (t : List ℕ) → IsBuilding (os, cs, t) → IsBuilding (os, cs, [])
IsBuilding-untold os cs t b = record {
  fits = Fits-finished os fragment (nodes_append (nodes_of cs) (text_nodes t)) (nodes_append (nodes_of cs) no_nodes)
      (λ p. rw (nodes_append-none (nodes_of cs)) (Fits_front (inside_all fragment (opened_by os)) (nodes_of cs) (text_nodes t) p))
      (λ q. inr (has_nodes-append (nodes_of cs) (text_nodes t) (rw (nodes_append-none (nodes_of cs)) at q))) b.fits;
  ended = b.ended;
}

-- more text keeps what every builder keeps
pub IsBuilding-text : (os : List Outer) (cs : List Node) (t s : List ℕ) → IsBuilding (os, cs, t) → 0 < length s
    → can_hold (opened_by os) ≡ true → IsBuilding (os, cs, t ++ s)
IsBuilding-text os cs t s b some holds = record {
  fits = Fits-finished os fragment (nodes_append (nodes_of cs) (text_nodes t)) (nodes_append (nodes_of cs) (text_nodes (t ++ s)))
      (Fits-text (inside_all fragment (opened_by os)) (nodes_of cs) t s b.ended some) (λ q. inl holds) b.fits;
  ended = b.ended;
}

-- leaving an element keeps what every builder keeps
pub IsBuilding-leave : (os : List Outer) (o : Outer) (cs ks : List Node) (t : List ℕ) → IsBuilding (os ++ (o ∷ []), cs, t)
    → nodes_of ks ≡ nodes_append (nodes_of o.before.items) (elem_first (elem_of o) (nodes_append (nodes_of cs) (text_nodes t)) no_nodes)
    → IsBuilding (os, ks, [])
IsBuilding-leave os o cs ks t b same = record {
  fits = rw (nodes_append-none (nodes_of ks), same) (rw (finished-more os o (nodes_append (nodes_of cs) (text_nodes t))) at b.fits);
  ended = rw same (ends-append_elem (nodes_of o.before.items) (elem_of o) (nodes_append (nodes_of cs) (text_nodes t)));
}

-- a builder whose innermost element is lost, with all that stands before it
pub IsBuilding-popped : (os : List Outer) (o : Outer) (cs : List Node) (t : List ℕ) → IsBuilding (os ++ (o ∷ []), cs, t) → IsBuilding (os, [], [])
IsBuilding-popped os o cs t b = record {
  fits = Fits-finished os fragment (with_open o (nodes_append (nodes_of cs) (text_nodes t))) no_nodes
      (λ p. record { low = omega arith; sound = refl; joined = refl }) (λ q. absurd (cc))
      (rw (finished-more os o (nodes_append (nodes_of cs) (text_nodes t))) at b.fits);
  ended = refl;
}

pub written-enter : (os : List Outer) (o : Outer) (f : Nodes) → nodes_of o.before.items ≡ f
    → written_before (os ++ (o ∷ [])) ++ [] ≡ (written_before os ++ tokens_of_nodes f) ++ (opening_of (elem_of o) ∷ [])
written-enter os o f same = rw (written_before-more os o, same) (simp (append_assoc, append-nil))

pub last_of-more : (es : List Element) (e : Element) → last_of (es ++ (e ∷ [])) ≡ e
last_of-more [] e = refl
last_of-more (d ∷ []) e = refl
last_of-more (d ∷ f ∷ es) e = last_of-more (f ∷ es) e

-- leaving an element writes what closes it
pub written-leave : (os : List Outer) (o : Outer) (f k : Nodes) → f ≡ with_open o k
    → written_before os ++ tokens_of_nodes (nodes_append f no_nodes) ≡ (written_before (os ++ (o ∷ [])) ++ tokens_of_nodes k) ++ closing_of o.name
written-leave os o f k same =
    rw (nodes_append-none f, same, written_before-more os o, tokens-append (nodes_of o.before.items) (elem_first (elem_of o) k no_nodes))
    (simp (append_assoc, append-nil))

-- leaving an element keeps what is written and what is still to be written
pub written_and_closings : (w v : List Token) (es fs : List Element) (e : Element) → es ≡ fs ++ (e ∷ []) → v ≡ w ++ closing_of e
    → v ++ closings_of fs ≡ w ++ closings_of es
written_and_closings w v es fs e p q = rw (p, q, closings_of-more fs e) (append_assoc w (closing_of e) (closings_of fs))

-- a text that is put where no text stands
pub IsBuilding-first : (os : List Outer) (cs : List Node) (t s : List ℕ) → t ≡ [] → IsBuilding (os, cs, t) → 0 < length s
    → can_hold (opened_by os) ≡ true → IsBuilding (os, cs, s)
IsBuilding-first os cs t s none b some holds =
    let P : List ℕ → Type 0 = λ t. IsBuilding (os, cs, t ++ s) in subst P none (IsBuilding-text os cs t s b some holds)

pub written-first : (os : List Outer) (f : Nodes) (t s : List ℕ) → t ≡ [] → ends_with_text f ≡ false → 0 < length s
    → Fits fragment (finished os (nodes_append f (text_nodes t))) → Fits (inside_all fragment (opened_by os)) (nodes_append f (text_nodes t))
    → written_before os ++ tokens_of_nodes (nodes_append f (text_nodes s))
    ≡ joined ((written_before os ++ tokens_of_nodes (nodes_append f (text_nodes t))) ++ (text_token s ∷ []))
written-first os f t s none e some h q =
    ap (λ t. written_before os ++ tokens_of_nodes (nodes_append f (text_nodes (t ++ s)))) (sym none) ∙ written-text os f t s e some h q
