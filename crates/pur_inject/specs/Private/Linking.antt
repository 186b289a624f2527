-- Nodes in which links are made, while they are gone through.
use Rattle.std.specs.Prelude.{ℕ, Bool, List, if◌then◌else◌}
use Rattle.pur_modules.specs.declared.kinds.Doctype.{Doctype}
use Rattle.pur_tree.specs.Nodes.{Nodes, no_nodes, text_first, elem_first, nodes_append}
use Rattle.pur_inject.specs.Links.{linked, linked_text, link_place_inside, takes_links}
use Rattle.pur_inject.specs.declared.places.LinkPlace.{LinkPlace}

-- nodes in which links are made inside of elements alone
abbrev pub linked_inside : Doctype → (List ℕ → Bool) → LinkPlace → Nodes → Nodes
linked_inside doctype admits at no_nodes = no_nodes
linked_inside doctype admits at (text_first s rest) = text_first s (linked_inside doctype admits at rest)
linked_inside doctype admits at (elem_first e kids rest) =
    elem_first e (linked doctype admits (link_place_inside doctype at e.name) kids) (linked_inside doctype admits at rest)

-- nodes in which links are made of their own texts alone
abbrev pub texts_linked : (List ℕ → Bool) → Nodes → Nodes
texts_linked admits no_nodes = no_nodes
texts_linked admits (text_first s rest) = nodes_append (linked_text admits s) (texts_linked admits rest)
texts_linked admits (elem_first e kids rest) = elem_first e kids (texts_linked admits rest)

-- the same, where links may stand
abbrev pub texts_linked_at : Doctype → (List ℕ → Bool) → LinkPlace → Nodes → Nodes
texts_linked_at doctype admits at nodes = if takes_links doctype at then texts_linked admits nodes else nodes
