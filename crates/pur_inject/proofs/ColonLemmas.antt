-- Without a colon there is no address.
use Rattle.std.proofs.Common.{◌≡◌, ℕ, suc, Bool, true, false, not, ◌&&◌, List, [], ◌∷◌, length, take, refl, sym, ap, ◌∙◌, arith, nat_eq}
use Rattle.std.specs.Prelude.{if◌then◌else◌, ◌==◌, codes}
use Rattle.std.specs.Char.{is_ascii_alphanumeric}
use Rattle.std.specs.Cmp.Lexicographic.{pointwise}
use Rattle.std.specs.List.{list_all, starts_with}
use Rattle.std.proofs.lemmas.Bool.{and_parts, and_from}
use Rattle.std.proofs.lemmas.Bool.Decides.{nat_tests}
use Rattle.pur_tree.specs.Nodes.{Nodes, no_nodes, text_first, elem_first, nodes_append}
use Rattle.pur_modules.specs.declared.kinds.Doctype.{Doctype}
use Rattle.pur_inject.specs.Addresses.{address_place, begins_address}
use Rattle.pur_inject.specs.Links.{is_address_sign, linked_text, takes_links, text_of}
use Rattle.pur_inject.specs.Private.Cutting.{are_colonless, is_colonless}
use Rattle.pur_inject.specs.Private.Linking.{texts_linked, texts_linked_at}
use Rattle.pur_inject.specs.Runs.{front_run, later_runs, runs_of}
use Rattle.pur_inject.specs.Signs.{letter, letters}
use Rattle.pur_inject.specs.declared.places.LinkPlace.{LinkPlace}
use Rattle.pur_inject.proofs.AddressLemmas.{place-later}
use Rattle.pur_inject.proofs.LinkLemmas.{link-none, no_link, text-stays}

same-colon : (x y : ℕ) → nat_eq x y ≡ true → not (y == 0x3A) ≡ true → not (x == 0x3A) ≡ true
same-colon x y same other = grind (arith, nat_tests)

-- a text without a colon begins with no prefix that has one
starts-colon : (p s : List ℕ) → pointwise nat_eq p (take (length p) s) ≡ true → is_colonless s ≡ true → is_colonless p ≡ true
starts-colon [] s is none = refl
starts-colon (x ∷ p) [] is none = absurd (cc)
starts-colon (x ∷ p) (y ∷ s) is none =
    let both = and_parts (nat_eq x y) (pointwise nat_eq p (take (length p) s)) is in
    let here = and_parts (not (y == 0x3A)) (is_colonless s) none in
    and_from _ _ (same-colon x y both.0 here.0) (starts-colon p s both.1 here.1)

starts-none : (p s : List ℕ) → is_colonless p ≡ false → is_colonless s ≡ true → starts_with nat_eq s p ≡ false
starts-none p s has none = go (starts_with nat_eq s p) refl where
  go : (b : Bool) → starts_with nat_eq s p ≡ b → b ≡ false
  go false is = refl
  go true is = let no = starts-colon p s is none in absurd (cc)

begins-none : (s : List ℕ) → is_colonless s ≡ true → begins_address s ≡ false
begins-none s none = rw (starts-none (codes "http://") s refl none, starts-none (codes "https://") s refl none, starts-none (codes "ftp://") s refl none) refl

and-none : (a : Bool) {b : Bool} → b ≡ false → (a && b) ≡ false
and-none true e = e
and-none false e = refl

place-none : (within : Bool) (s : List ℕ) → is_colonless s ≡ true → address_place within s ≡ length s
place-none within [] none = refl
place-none within (c ∷ s) none =
    place-later within c s (and-none (not within) (begins-none (c ∷ s) none))
    ∙ ap suc (place-none (is_ascii_alphanumeric c) s (and_parts (not (c == 0x3A)) (is_colonless s) none).1)

front-none : (s : List ℕ) → is_colonless s ≡ true → is_colonless (text_of (front_run is_address_sign (letters s))) ≡ true
front-none [] none = refl
front-none (c ∷ s) none = go (is_address_sign (letter c)) (front-none s both.1) where
  both : (not (c == 0x3A) ≡ true) × (is_colonless s ≡ true)
  both = and_parts (not (c == 0x3A)) (is_colonless s) none

  go : (b : Bool) → is_colonless (text_of (front_run is_address_sign (letters s))) ≡ true
      → is_colonless (text_of (if b then letter c ∷ front_run is_address_sign (letters s) else [])) ≡ true
  go true rest = and_from _ _ both.0 rest
  go false rest = refl

module _ (admits : List ℕ → Bool) where
  front-no-link : (s : List ℕ) → is_colonless s ≡ true → no_link admits (front_run is_address_sign (letters s)) ≡ true
  front-no-link s none =
      let text = text_of (front_run is_address_sign (letters s)) in
      ap not (link-none admits text (omega (arith, place-none false text (front-none s none))))

  later-none : (s : List ℕ) → is_colonless s ≡ true → list_all (no_link admits) (later_runs is_address_sign (letters s)) ≡ true
  later-none [] none = refl
  later-none (c ∷ s) none = go (is_address_sign (letter c)) (later-none s rest) where
    rest : is_colonless s ≡ true
    rest = (and_parts (not (c == 0x3A)) (is_colonless s) none).1

    go : (b : Bool) → list_all (no_link admits) (later_runs is_address_sign (letters s)) ≡ true
        → list_all (no_link admits) (if b then later_runs is_address_sign (letters s) else runs_of is_address_sign (letters s)) ≡ true
    go true more = more
    go false more = and_from _ _ (front-no-link s rest) more

  pub text-colonless : (s : List ℕ) → is_colonless s ≡ true → linked_text admits s ≡ text_first s no_nodes
  text-colonless s none = text-stays admits s (and_from _ _ (front-no-link s none) (later-none s none))

  texts-colonless : (n : Nodes) → are_colonless n ≡ true → texts_linked admits n ≡ n
  texts-colonless no_nodes none = refl
  texts-colonless (text_first s n) none =
      let both = and_parts (is_colonless s) (are_colonless n) none in
      ap (λ f. nodes_append f (texts_linked admits n)) (text-colonless s both.0) ∙ ap (text_first s) (texts-colonless n both.1)
  texts-colonless (elem_first e kids n) none = ap (elem_first e kids) (texts-colonless n none)

  pub texts-at-colonless : (d : Doctype) (at : LinkPlace) (n : Nodes) → are_colonless n ≡ true → n ≡ texts_linked_at d admits at n
  texts-at-colonless d at n none = go (takes_links d at) where
    go : (b : Bool) → n ≡ (if b then texts_linked admits n else n)
    go true = sym (texts-colonless n none)
    go false = refl
