-- No link is left to be made in nodes.
use Rattle.std.proofs.Common.{◌≡◌, ℕ, ◌≤◌, Bool, true, false, not, ◌&&◌, ◌||◌, List, [], ◌∷◌, ◌++◌, refl, sym, ap, subst, ◌∙◌, arith, append_assoc, append-nil}
use Rattle.std.specs.Prelude.{if◌then◌else◌, nat_lt}
use Rattle.std.specs.List.{list_all}
use Rattle.std.proofs.lemmas.Bool.{and_parts, and_from}
use Rattle.std.proofs.lemmas.Bool.Decides.{nat_tests}
use Rattle.std.proofs.lemmas.List.{map-append}
use Rattle.pur_laws.proofs.Lists.{all-append}
use Rattle.pur_laws.proofs.Truth.{and_false}
use Rattle.pur_names.specs.declared.elements.Element.{Element}
use Rattle.pur_names.specs.declared.elements.Element.TheVariants.{A}
use Rattle.pur_modules.specs.declared.kinds.Child.TheVariants.{Elem}
use Rattle.pur_modules.specs.declared.kinds.Doctype.{Doctype}
use Rattle.pur_modules.specs.Contents.{content_held, is_excluded}
use Rattle.pur_modules.specs.Expressions.{is_letter}
use Rattle.pur_tree.specs.Nodes.{Nodes, no_nodes, text_first, elem_first, nodes_append, is_joined, starts_with_text}
use Rattle.pur_tree.specs.Places.{rise}
use Rattle.pur_inject.specs.Laws.{names_alone}
use Rattle.pur_inject.specs.Links.{is_address_sign, link_sign, link_place_inside, linked, linked_text, takes_links}
use Rattle.pur_inject.specs.Runs.{later_runs, runs_of}
use Rattle.pur_inject.specs.Signs.{Sign, letter, element, blank_line, letters, signs_of, signs_before, nodes_from, two_line_feeds}
use Rattle.pur_inject.specs.declared.places.LinkPlace.{LinkPlace}
use Rattle.pur_inject.proofs.LinkLemmas.{no_link, no_links, text-left, text-stays, text-each}
use Rattle.pur_inject.proofs.RunLemmas.{Each, each-append, Stops, pass-split, pass-parts, runs-join}
use Rattle.pur_inject.proofs.SignLemmas.{before-append, letters-before, letters-elem, letters-none, letters-each}

pub or_right : (a b : Bool) → b ≡ true → (a || b) ≡ true
or_right true b is = refl
or_right false b is = is

module _ (d : Doctype) (admits : List ℕ → Bool) where
  -- nor is one left in any text of nodes that stand in a place, where links may stand
  abbrev pub links_left : LinkPlace → Nodes → Bool
  links_left at no_nodes = true
  links_left at (text_first s rest) = (not (takes_links d at) || no_links admits (letters s)) && links_left at rest
  links_left at (elem_first e kids rest) = links_left (link_place_inside d at e.name) kids && links_left at rest

  left-append : (at : LinkPlace) (f g : Nodes) → links_left at f ≡ true → links_left at g ≡ true → links_left at (nodes_append f g) ≡ true
  left-append at no_nodes g a b = b
  left-append at (text_first s f) g a b = let both = and_parts _ _ a in and_from _ _ both.0 (left-append at f g both.1 b)
  left-append at (elem_first e kids f) g a b = let both = and_parts _ _ a in and_from _ _ both.0 (left-append at f g both.1 b)

  -- where none is left in signs, none is in their nodes
  module _ (at : LinkPlace) where
    abbrev pub KidsLeft : Sign → Type 0
    KidsLeft (letter c) = Unit {0}
    KidsLeft (element e kids) = links_left (link_place_inside d at e.name) kids ≡ true
    KidsLeft blank_line = Unit {0}

    longer : (s t : List ℕ) (more : Nodes) → signs_before (letters s) (signs_before (letters t) more) ≡ signs_before (letters (s ++ t)) more
    longer s t more = sym (ap (λ l. signs_before l more) (map-append letter s t) ∙ before-append (letters s) (letters t) more)

    behind : (s t : List ℕ) (l : List Sign) → letters (s ++ t) ++ l ≡ letters s ++ (letters t ++ l)
    behind s t l = ap (λ m. m ++ l) (map-append letter s t) ∙ append_assoc (letters s) (letters t) l

    from-left : (s : List ℕ) (l : List Sign) → no_links admits (letters s ++ l) ≡ true → Each KidsLeft l → links_left at (signs_before (letters s) (nodes_from l)) ≡ true
    from-left [] [] none kids = refl
    from-left (c ∷ s) [] none kids =
        ap (links_left at) (letters-none (c ∷ s) (omega arith))
        ∙ and_from _ _ (or_right (not (takes_links d at)) _ (ap (no_links admits) (sym (append-nil (letters (c ∷ s)))) ∙ none)) refl
    from-left s (letter c ∷ l) none kids =
        ap (links_left at) (longer s (c ∷ []) (nodes_from l))
        ∙ from-left (s ++ (c ∷ [])) l (ap (no_links admits) (behind s (c ∷ []) l) ∙ none) kids.1
    from-left [] (element e below ∷ l) none kids =
        and_from _ _ kids.0 (from-left [] l (pass-parts is_address_sign (no_link admits) refl [] l (element e below) refl none).1 kids.1)
    from-left (c ∷ s) (element e below ∷ l) none kids =
        let both = pass-parts is_address_sign (no_link admits) refl (letters (c ∷ s)) l (element e below) refl none in
        ap (links_left at) (letters-elem (c ∷ s) e below (nodes_from l) (omega arith))
        ∙ and_from _ _ (or_right (not (takes_links d at)) (no_links admits (letters (c ∷ s))) both.0) (and_from _ _ kids.0 (from-left [] l both.1 kids.1))
    from-left s (blank_line ∷ l) none kids =
        let both = pass-parts is_address_sign (no_link admits) refl (letters s) l blank_line refl none in
        let feeds : no_links admits (letters s ++ (letter 0xA ∷ letter 0xA ∷ l)) ≡ true =
        pass-split is_address_sign (no_link admits) refl (letters s) (letter 0xA ∷ l) (letter 0xA) refl both.0 (pass-split is_address_sign (no_link admits) refl [] l (letter 0xA) refl refl both.1) in
        ap (λ f. links_left at (signs_before (letters s) f)) (sym (letters-before 0xA (0xA ∷ []) (nodes_from l)))
        ∙ ap (links_left at) (longer s two_line_feeds (nodes_from l))
        ∙ from-left (s ++ two_line_feeds) l (ap (no_links admits) (behind s two_line_feeds l) ∙ feeds) kids.1

    pub signs-left : (l : List Sign) → no_links admits l ≡ true → Each KidsLeft l → links_left at (nodes_from l) ≡ true
    signs-left l none kids = from-left [] l none kids

    -- and where none is left in nodes, none is in their signs
    stops : (n : Nodes) → not (starts_with_text n) ≡ true → Stops is_address_sign (signs_of n)
    stops no_nodes apart = tt
    stops (text_first s n) apart = absurd (cc)
    stops (elem_first e kids n) apart = refl

    pub left-signs : (n : Nodes) → takes_links d at ≡ true → is_joined n ≡ true → links_left at n ≡ true → no_links admits (signs_of n) ≡ true
    left-signs no_nodes takes joined h = refl
    left-signs (text_first s n) takes joined h =
        let apart = and_parts (not (starts_with_text n)) (is_joined n) joined in
        let both = and_parts (not (takes_links d at) || no_links admits (letters s)) (links_left at n) h in
        let here : no_links admits (letters s) ≡ true = subst (λ b. (not b || no_links admits (letters s)) ≡ true) takes both.0 in
        let rest = left-signs n takes apart.1 both.1 in
        ap (list_all (no_link admits)) (runs-join is_address_sign (letters s) (signs_of n) (stops n apart.0))
        ∙ all-append (no_link admits) (runs_of is_address_sign (letters s)) (later_runs is_address_sign (signs_of n)) here (and_parts _ _ rest).1
    left-signs (elem_first e kids n) takes joined h =
        pass-split is_address_sign (no_link admits) refl [] (signs_of n) (element e kids) refl refl
        (left-signs n takes (and_parts (is_joined kids) (is_joined n) joined).1 (and_parts _ _ h).1)

    pub kids-left : (n : Nodes) → links_left at n ≡ true → Each KidsLeft (signs_of n)
    kids-left no_nodes h = tt
    kids-left (text_first s n) h = each-append KidsLeft (letters s) (signs_of n) (letters-each KidsLeft (λ c. tt) s) (kids-left n (and_parts _ _ h).1)
    kids-left (elem_first e kids n) h = let both = and_parts _ _ h in (both.0, kids-left n both.1)

  -- ---- links leave none, and change nothing where none is left

  barred : (at : LinkPlace) → takes_links d (link_place_inside d at A) ≡ false
  barred at = and_false (is_letter d (link_place_inside d at A).content (Elem A) && nat_lt 0 (link_place_inside d at A).room)

  link-left : (at : LinkPlace) (address : List ℕ) → KidsLeft at (link_sign address)
  link-left at address = and_from _ _ (ap (λ (b : Bool). not b || no_links admits (letters address)) (barred at)) refl

  pub linked-left : (at : LinkPlace) (n : Nodes) → links_left at (linked d admits at n) ≡ true
  linked-left at no_nodes = refl
  linked-left at (text_first s rest) = go (takes_links d at) refl (linked-left at rest) where
    left : (s : List ℕ) → links_left at (linked_text admits s) ≡ true
    left [] = and_from _ _ (or_right (not (takes_links d at)) true refl) refl
    left (c ∷ s) = signs-left at _ (text-left admits (c ∷ s))
        (text-each admits (KidsLeft at) (λ address is h. link-left at address) (c ∷ s) (letters-each (KidsLeft at) (λ c. tt) (c ∷ s)))

    go : (b : Bool) → takes_links d at ≡ b → links_left at (linked d admits at rest) ≡ true → links_left at (nodes_append (if b then linked_text admits s else text_first s no_nodes) (linked d admits at rest)) ≡ true
    go true is more = left-append at (linked_text admits s) (linked d admits at rest) (left s) more
    go false is more = and_from _ _ (ap (λ (b : Bool). not b || no_links admits (letters s)) is) more
  linked-left at (elem_first e kids rest) = and_from _ _ (linked-left (link_place_inside d at e.name) kids) (linked-left at rest)

  pub linked-stays : (at : LinkPlace) (n : Nodes) → links_left at n ≡ true → linked d admits at n ≡ n
  linked-stays at no_nodes h = refl
  linked-stays at (text_first s rest) h =
      let both = and_parts (not (takes_links d at) || no_links admits (letters s)) (links_left at rest) h in
      go (takes_links d at) both.0 (linked-stays at rest both.1)
    where
      go : (b : Bool) → (not b || no_links admits (letters s)) ≡ true → linked d admits at rest ≡ rest → nodes_append (if b then linked_text admits s else text_first s no_nodes) (linked d admits at rest) ≡ text_first s rest
      go true none more = ap (λ f. nodes_append f (linked d admits at rest)) (text-stays admits s none) ∙ ap (text_first s) more
      go false none more = ap (text_first s) more
  linked-stays at (elem_first e kids rest) h =
      let both = and_parts _ _ h in
      ap (λ k. elem_first e k (linked d admits at rest)) (linked-stays (link_place_inside d at e.name) kids both.0) ∙ ap (elem_first e kids) (linked-stays at rest both.1)

  -- attributes don't count
  pub left-names : (at : LinkPlace) (n : Nodes) → links_left at (names_alone n) ≡ links_left at n
  left-names at no_nodes = refl
  left-names at (text_first s rest) = ap (λ (b : Bool). (not (takes_links d at) || no_links admits (letters s)) && b) (left-names at rest)
  left-names at (elem_first e kids rest) =
      ap (λ (b : Bool). b && links_left at (names_alone rest)) (left-names (link_place_inside d at e.name) kids)
      ∙ ap (λ (b : Bool). links_left (link_place_inside d at e.name) kids && b) (left-names at rest)

  -- ---- where fewer links may stand

  pub record Narrower (at round : LinkPlace) : Type 0 where
    pub content : at.content ≡ round.content
    pub room : at.room ≤ round.room
    pub in_table : at.in_table ≡ round.in_table
    pub barred : at.barred ≡ round.barred

  narrower-inside : (at round : LinkPlace) (e : Element) → Narrower at round → Narrower (link_place_inside d at e) (link_place_inside d round e)
  narrower-inside at round e n = record {
    content = ap (content_held d e) n.content;
    room = let same : rise at.in_table e ≡ rise round.in_table e = ap (λ (b : Bool). rise b e) n.in_table in omega (arith, n.room, same);
    in_table = refl;
    barred = ap (λ (b : Bool). is_excluded e A || b) n.barred;
  }

  above : (n m : ℕ) → nat_lt 0 n ≡ true → n ≤ m → nat_lt 0 m ≡ true
  above n m is most = grind (arith, nat_tests)

  takes-narrower : (at round : LinkPlace) → Narrower at round → takes_links d at ≡ true → takes_links d round ≡ true
  takes-narrower at round n is =
      let one = and_parts (is_letter d at.content (Elem A) && nat_lt 0 at.room) (not at.barred) is in
      let two = and_parts (is_letter d at.content (Elem A)) (nat_lt 0 at.room) one.0 in
      and_from _ _ (and_from _ _ (ap (λ k. is_letter d k (Elem A)) (sym n.content) ∙ two.0) (above at.room round.room two.1 n.room)) (ap not (sym n.barred) ∙ one.1)

  pub left-narrower : (at round : LinkPlace) (n : Nodes) → Narrower at round → links_left round n ≡ true → links_left at n ≡ true
  left-narrower at round no_nodes less h = refl
  left-narrower at round (text_first s n) less h =
      let both = and_parts (not (takes_links d round) || no_links admits (letters s)) (links_left round n) h in
      go (takes_links d at) refl both.0 (left-narrower at round n less both.1)
    where
      go : (b : Bool) → takes_links d at ≡ b → (not (takes_links d round) || no_links admits (letters s)) ≡ true → links_left at n ≡ true → ((not b || no_links admits (letters s)) && links_left at n) ≡ true
      go false is here more = more
      go true is here more = and_from _ _ (subst (λ b. (not b || no_links admits (letters s)) ≡ true) (takes-narrower at round less is) here) more
  left-narrower at round (elem_first e kids n) less h =
      let both = and_parts _ _ h in
      and_from _ _ (left-narrower (link_place_inside d at e.name) (link_place_inside d round e.name) kids (narrower-inside at round e.name less) both.0) (left-narrower at round n less both.1)
