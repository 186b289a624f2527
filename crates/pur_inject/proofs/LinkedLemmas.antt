-- Links made inside of elements first, and then of nodes' own texts.
use Rattle.std.proofs.Common.{◌≡◌, ℕ, Bool, true, false, List, refl, sym, ap, ◌∙◌}
use Rattle.std.specs.Prelude.{if◌then◌else◌}
use Rattle.pur_modules.specs.declared.kinds.Doctype.{Doctype}
use Rattle.pur_tree.specs.Nodes.{Nodes, no_nodes, text_first, elem_first, nodes_append}
use Rattle.pur_inject.specs.Links.{linked, linked_text, link_place_inside, takes_links}
use Rattle.pur_inject.specs.declared.places.LinkPlace.{LinkPlace}
use Rattle.pur_inject.specs.Private.Linking.{linked_inside, texts_linked, texts_linked_at}

module _ (doctype : Doctype) (admits : List ℕ → Bool) where
  both-true : (at : LinkPlace) (n : Nodes) → takes_links doctype at ≡ true → texts_linked admits (linked_inside doctype admits at n) ≡ linked doctype admits at n
  both-true at no_nodes is = refl
  both-true at (text_first s rest) is =
      ap (nodes_append (linked_text admits s)) (both-true at rest is)
      ∙ ap (λ (b : Bool). nodes_append (if b then linked_text admits s else text_first s no_nodes) (linked doctype admits at rest)) (sym is)
  both-true at (elem_first e kids rest) is = ap (elem_first e (linked doctype admits (link_place_inside doctype at e.name) kids)) (both-true at rest is)

  both-false : (at : LinkPlace) (n : Nodes) → takes_links doctype at ≡ false → linked_inside doctype admits at n ≡ linked doctype admits at n
  both-false at no_nodes is = refl
  both-false at (text_first s rest) is =
      ap (text_first s) (both-false at rest is)
      ∙ ap (λ (b : Bool). nodes_append (if b then linked_text admits s else text_first s no_nodes) (linked doctype admits at rest)) (sym is)
  both-false at (elem_first e kids rest) is = ap (elem_first e (linked doctype admits (link_place_inside doctype at e.name) kids)) (both-false at rest is)

  pub inside-first : (at : LinkPlace) (n : Nodes) → texts_linked_at doctype admits at (linked_inside doctype admits at n) ≡ linked doctype admits at n
  inside-first at n = go (takes_links doctype at) refl where
    go : (b : Bool) → takes_links doctype at ≡ b → (if b then texts_linked admits (linked_inside doctype admits at n) else linked_inside doctype admits at n) ≡ linked doctype admits at n
    go true is = both-true at n is
    go false is = both-false at n is
