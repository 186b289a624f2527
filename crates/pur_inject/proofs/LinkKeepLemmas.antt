-- What links keep.
use Rattle.std.proofs.Common.{◌≡◌, ℕ, ◌+◌, ◌-◌, ◌<◌, Bool, true, false, not, ◌&&◌, ◌||◌, List, [], ◌∷◌, refl, sym, ap, ◌∙◌, arith}
use Rattle.std.specs.Prelude.{if◌then◌else◌, nat_lt}
use Rattle.std.proofs.lemmas.Bool.{and_parts, and_from, not-true}
use Rattle.std.proofs.lemmas.Bool.Decides.{nat_tests}
use Rattle.pur_names.specs.declared.attributes.Attr.TheVariants.{Href}
use Rattle.pur_names.specs.declared.elements.Element.{Element}
use Rattle.pur_names.specs.declared.elements.Element.TheVariants.{A}
use Rattle.pur_modules.specs.declared.kinds.Child.TheVariants.{Elem}
use Rattle.pur_modules.specs.declared.kinds.Doctype.{Doctype}
use Rattle.pur_modules.specs.Contents.{is_excluded, is_excluded_in}
use Rattle.pur_modules.specs.Expressions.{is_letter}
use Rattle.pur_settings.specs.Rules.{Rules, permits_attribute, permits_element}
use Rattle.pur_tree.specs.Nodes.{PlainElem, Nodes, no_nodes, text_first, elem_first, nodes_append, is_joined, starts_with_text}
use Rattle.pur_tree.specs.Places.{level_limit, fragment, rise}
use Rattle.pur_tree.specs.Properties.{Property, Holds, levels, soundness, free, permitted, pictures, allowed, distinct}
use Rattle.pur_tree.specs.Walks.{count_in_text}
use Rattle.pur_tree.proofs.HoldsLemmas.{Holds-append, levels-test, test-levels, soundness-test, test-soundness, allowed-test, test-allowed, distinct-test, test-distinct}
use Rattle.pur_tree.proofs.NodesLemmas.{joined-append}
use Rattle.pur_tree.proofs.WalkLemmas.{count_in_text-append}
use Rattle.pur_uripolicy.specs.HostRules.{PlainHostRule}
use Rattle.pur_inject.specs.Addresses.{is_address}
use Rattle.pur_inject.specs.Laws.{Keeps, elems}
use Rattle.pur_inject.specs.Links.{is_address_sign, link_to, link_sign, linked, linked_run, linked_text, link_place_inside, link_place_of, takes_links, makes_links, may_be_linked, with_links}
use Rattle.pur_inject.specs.Runs.{with_runs}
use Rattle.pur_inject.specs.Signs.{letters}
use Rattle.pur_inject.specs.declared.places.LinkPlace.{LinkPlace}
use Rattle.pur_inject.proofs.LinkLemmas.{text-count, text-each}
use Rattle.pur_inject.proofs.RunLemmas.{Each}
use Rattle.pur_inject.proofs.SignLemmas.{JoinedInside, OfSign, TextProperty, allowed-text, from-joined, letters-each, quiet, signs-hold, sound-text, whole}

-- what is known of a place where links may stand
pub record TakesLinks (doctype : Doctype) (at : LinkPlace) : Type 0 where
  pub letter : is_letter doctype at.content (Elem A) ≡ true
  pub room : 0 < at.room
  pub free : at.barred ≡ false

below : (n : ℕ) → nat_lt 0 n ≡ true → 0 < n
below n is = grind (arith, nat_tests)

pub takes : (doctype : Doctype) (at : LinkPlace) → takes_links doctype at ≡ true → TakesLinks doctype at
takes doctype at is =
    let one = and_parts (is_letter doctype at.content (Elem A) && nat_lt 0 at.room) (not at.barred) is in
    let two = and_parts (is_letter doctype at.content (Elem A)) (nat_lt 0 at.room) one.0 in
    record { letter = two.0; room = below at.room two.1; free = not-true at.barred one.1 }

-- what holds of texts, also in the place inside a link, and of links where they may stand, is kept
module _ (doctype : Doctype) (admits : List ℕ → Bool) (q : Property) (texts : TextProperty q) (R : LinkPlace → q.Where → Type 0)
    (goes_in : (at : LinkPlace) (w : q.Where) (e : Element) → R at w → R (link_place_inside doctype at e) (q.inside w e))
    (links : (at : LinkPlace) (w : q.Where) (address : List ℕ) → R at w → takes_links doctype at ≡ true → (is_address address && admits address) ≡ true
    → q.text w address → q.elem w (link_to address) × q.text (q.inside w A) address) where
  of-link : (at : LinkPlace) (w : q.Where) (address : List ℕ) → R at w → takes_links doctype at ≡ true → (is_address address && admits address) ≡ true
      → Each (OfSign q w) (letters address) → OfSign q w (link_sign address)
  of-link at w [] r is may h = absurd (cc)
  of-link at w (c ∷ s) r is may h = let both = links at w (c ∷ s) r is may (whole q texts w c s h) in (both.0, (both.1, tt))

  text-linked : (at : LinkPlace) (w : q.Where) (s : List ℕ) → R at w → takes_links doctype at ≡ true → q.text w s → Holds q w (linked_text admits s)
  text-linked at w [] r is h = (h, tt)
  text-linked at w (c ∷ s) r is h =
      signs-hold q w (texts.joins w) (with_runs is_address_sign (linked_run admits) (letters (c ∷ s)))
      (text-each admits (OfSign q w) (λ address. of-link at w address r is) (c ∷ s) (texts.parts w (c ∷ s) h))

  pub Holds-linked : (at : LinkPlace) (w : q.Where) (n : Nodes) → R at w → Holds q w n → Holds q w (linked doctype admits at n)
  Holds-linked at w no_nodes r h = tt
  Holds-linked at w (text_first s rest) r h = go (takes_links doctype at) refl (Holds-linked at w rest r h.1) where
    go : (b : Bool) → takes_links doctype at ≡ b → Holds q w (linked doctype admits at rest) → Holds q w (nodes_append (if b then linked_text admits s else text_first s no_nodes) (linked doctype admits at rest))
    go true is more = Holds-append q w (linked_text admits s) (linked doctype admits at rest) (text-linked at w s r is h.0) more
    go false is more = (h.0, more)
  Holds-linked at w (elem_first e kids rest) r h =
      (h.0, Holds-linked (link_place_inside doctype at e.name) (q.inside w e.name) kids (goes_in at w e.name r) h.1, Holds-linked at w rest r h.2)

-- ---- no texts come to be neighbours

text-joined : (admits : List ℕ → Bool) (s : List ℕ) → is_joined (linked_text admits s) ≡ true
text-joined admits [] = refl
text-joined admits (c ∷ s) =
    from-joined (with_runs is_address_sign (linked_run admits) (letters (c ∷ s))) (text-each admits JoinedInside (λ address may h. refl) (c ∷ s) (letters-each JoinedInside (λ c. tt) (c ∷ s)))

starts-linked : (doctype : Doctype) (admits : List ℕ → Bool) (at : LinkPlace) (n : Nodes) → starts_with_text n ≡ false → starts_with_text (linked doctype admits at n) ≡ false
starts-linked doctype admits at no_nodes h = refl
starts-linked doctype admits at (text_first s rest) h = absurd (cc)
starts-linked doctype admits at (elem_first e kids rest) h = refl

joined-linked : (doctype : Doctype) (admits : List ℕ → Bool) (at : LinkPlace) (n : Nodes) → is_joined n ≡ true → is_joined (linked doctype admits at n) ≡ true
joined-linked doctype admits at no_nodes h = refl
joined-linked doctype admits at (text_first s rest) h =
    let both = and_parts (not (starts_with_text rest)) (is_joined rest) h in
    let apart = starts-linked doctype admits at rest (not-true (starts_with_text rest) both.0) in
    joined-append (if takes_links doctype at then linked_text admits s else text_first s no_nodes) (linked doctype admits at rest) apart (go (takes_links doctype at)) (joined-linked doctype admits at rest both.1)
  where
    go : (b : Bool) → is_joined (if b then linked_text admits s else text_first s no_nodes) ≡ true
    go true = text-joined admits s
    go false = refl
joined-linked doctype admits at (elem_first e kids rest) h =
    let both = and_parts (is_joined kids) (is_joined rest) h in
    and_from _ _ (joined-linked doctype admits (link_place_inside doctype at e.name) kids both.0) (joined-linked doctype admits at rest both.1)

-- ---- each character stays

counts-linked : (doctype : Doctype) (admits : List ℕ → Bool) (c : ℕ) (at : LinkPlace) (n : Nodes) → count_in_text c (linked doctype admits at n) ≡ count_in_text c n
counts-linked doctype admits c at no_nodes = refl
counts-linked doctype admits c at (text_first s rest) = go (takes_links doctype at) (counts-linked doctype admits c at rest) where
  go : (b : Bool) → count_in_text c (linked doctype admits at rest) ≡ count_in_text c rest
      → count_in_text c (nodes_append (if b then linked_text admits s else text_first s no_nodes) (linked doctype admits at rest)) ≡ count_in_text c (text_first s rest)
  go true more = omega (arith, count_in_text-append c (linked_text admits s) (linked doctype admits at rest), text-count admits c s, more)
  go false more = omega (arith, more)
counts-linked doctype admits c at (elem_first e kids rest) =
    omega (arith, counts-linked doctype admits c (link_place_inside doctype at e.name) kids, counts-linked doctype admits c at rest)

-- ---- nodes with links

module _ (rules : Rules) (rule : PlainHostRule) (n : Nodes) where
  abbrev made : Nodes
  made = linked rules.doctype (may_be_linked rules rule) (link_place_of rules) n

  pub counts-with_links : (c : ℕ) → count_in_text c (with_links rules rule n) ≡ count_in_text c n
  counts-with_links c = go (makes_links rules) where
    go : (b : Bool) → count_in_text c (if b then made else n) ≡ count_in_text c n
    go true = counts-linked rules.doctype (may_be_linked rules rule) c (link_place_of rules) n
    go false = refl

  pub joined-with_links : is_joined n ≡ true → is_joined (with_links rules rule n) ≡ true
  joined-with_links h = go (makes_links rules) where
    go : (b : Bool) → is_joined (if b then made else n) ≡ true
    go true = joined-linked rules.doctype (may_be_linked rules rule) (link_place_of rules) n h
    go false = h

  on-permits : makes_links rules ≡ true → permits_element rules A ≡ true
  on-permits on = (and_parts rules.linkify (permits_element rules A) (and_parts (rules.linkify && permits_element rules A) (permits_attribute rules A Href) on).0).1

  -- a property that holds of each link
  module _ (q : Property) (texts : TextProperty q)
      (links : (w : q.Where) (address : List ℕ) → makes_links rules ≡ true → may_be_linked rules rule address ≡ true → q.text w address
      → q.elem w (link_to address) × q.text (q.inside w A) address) where
    pub kept : (w : q.Where) → Holds q w n → Holds q w (with_links rules rule n)
    kept w h = go (makes_links rules) refl where
      go : (b : Bool) → makes_links rules ≡ b → Holds q w (if b then made else n)
      go true on = Holds-linked rules.doctype (may_be_linked rules rule) q texts (λ at v. Unit {0}) (λ at v e r. tt)
          (λ at v address r is may h. links v address on (and_parts (is_address address) (may_be_linked rules rule address) may).1 h)
          (link_place_of rules) w n tt h
      go false on = h

  pub tested : (test : PlainElem → Bool) → ((address : List ℕ) → makes_links rules ≡ true → may_be_linked rules rule address ≡ true → test (link_to address) ≡ true)
      → Holds (elems test) tt n → Holds (elems test) tt (with_links rules rule n)
  tested test each h = kept (elems test) (quiet (elems test) (λ w s. tt)) (λ w address on may h. (each address on may, tt)) tt h

  free-links : Holds free [] n → Holds free [] (with_links rules rule n)
  free-links h = go (makes_links rules) where
    go : (b : Bool) → Holds free [] (if b then made else n)
    go true = Holds-linked rules.doctype (may_be_linked rules rule) free (quiet free (λ w s. tt)) (λ at w. at.barred ≡ is_excluded_in w A)
        (λ at w e r. ap (λ (b : Bool). is_excluded e A || b) r)
        (λ at w address r is may h. (sym r ∙ (takes rules.doctype at is).free, tt))
        (link_place_of rules) [] n refl h
    go false = h

  low-links : Holds (levels level_limit) fragment n → Holds (levels level_limit) fragment (with_links rules rule n)
  low-links h = go (makes_links rules) where
    deeper : (a b : Bool) (n m : ℕ) (e : Element) → n ≡ 128 - m → a ≡ b → n - rise a e ≡ 128 - (m + rise b e)
    deeper a b n m e one two = let same : rise a e ≡ rise b e = ap (λ (t : Bool). rise t e) two in omega (arith, one, same)

    go : (b : Bool) → Holds (levels level_limit) fragment (if b then made else n)
    go true = Holds-linked rules.doctype (may_be_linked rules rule) (levels level_limit) (quiet (levels level_limit) (λ w s. tt))
        (λ at w. (at.room ≡ 128 - w.level) × (at.in_table ≡ w.in_table))
        (λ at w e r. (deeper at.in_table w.in_table at.room w.level e r.0 r.1, refl))
        (λ at w address r is may h. let room = (takes rules.doctype at is).room in (omega (arith, room, r.0), tt))
        (link_place_of rules) fragment n (refl, refl) h
    go false = h

  sound-links : Holds soundness false n → Holds soundness false (with_links rules rule n)
  sound-links h = kept soundness sound-text (λ w address on may h. (h.0, (refl, h.1))) false h

  pub keeps-with_links : Keeps rules n (with_links rules rule n)
  keeps-with_links = record {
    forest = λ h. record {
      low = test-levels level_limit fragment (with_links rules rule n) (low-links (levels-test level_limit fragment n h.low));
      sound = test-soundness (with_links rules rule n) (sound-links (soundness-test n h.sound));
    };
    joined = joined-with_links;
    free = free-links;
    permitted = λ h. kept (permitted (permits_element rules)) (quiet (permitted (permits_element rules)) (λ w s. tt)) (λ w address on may h. (on-permits on, tt)) tt h;
    allowed = λ h. test-allowed (with_links rules rule n)
        (kept allowed allowed-text (λ w address on may all. (and_from _ _ all refl, all)) tt (allowed-test n h));
    pictures = λ test h. kept (pictures test) (quiet (pictures test) (λ w s. tt)) (λ w address on may h. (refl, tt)) tt h;
    distinct = λ h. test-distinct (with_links rules rule n)
        (kept distinct (quiet distinct (λ w s. tt)) (λ w address on may h. (refl, tt)) tt (distinct-test n h));
  }
