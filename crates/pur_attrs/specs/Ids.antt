-- The ids of a document, as one list (XML 1.0, section 3.3.1: no two elements have one id).
use Rattle.std.specs.Prelude.{ℕ, List, [], ◌∷◌, ◌++◌, map, take, drop, length, Option, None, Some, if◌then◌else◌, codes}
use Rattle.pur_attrlist.specs.Attributes.{Attribute, is_same_text, with_value, without}
use Rattle.pur_tree.specs.Nodes.{Nodes, no_nodes, text_first, elem_first, plain_elem}
use Rattle.pur_validity.specs.Attributes.{ids_in, ids_of, has_prefix}

-- an id with the prefix in front, unless it begins with it
abbrev pub with_prefix : List ℕ → List ℕ → List ℕ
with_prefix prefix id = if has_prefix prefix id then id else prefix ++ id

-- an id, unless it is this one
abbrev pub unless_same : List ℕ → Option (List ℕ) → Option (List ℕ)
unless_same id None = None
unless_same id (Some other) = if is_same_text id other then None else Some other

-- each of the ids, or none in the place of one that stands earlier
abbrev pub first_of_same : List (List ℕ) → List (Option (List ℕ))
first_of_same [] = []
first_of_same (id ∷ ids) = Some id ∷ map (unless_same id) (first_of_same ids)

-- what becomes of each of the ids: first the prefix is put, and then one that stands earlier is left out
abbrev pub ids_kept : List ℕ → List (List ℕ) → List (Option (List ℕ))
ids_kept prefix ids = first_of_same (map (with_prefix prefix) ids)

-- attributes with what became of their id, if they have one
abbrev pub with_id : List (Option (List ℕ)) → List Attribute → List Attribute
with_id [] attrs = attrs
with_id (None ∷ more) attrs = without attrs (codes "id")
with_id (Some id ∷ more) attrs = with_value attrs (codes "id") id

-- nodes with what became of each of their ids, told in document order
abbrev pub with_ids : List (Option (List ℕ)) → Nodes → Nodes
with_ids told no_nodes = no_nodes
with_ids told (text_first s rest) = text_first s (with_ids told rest)
with_ids told (elem_first e kids rest) =
    let own = length (ids_in e.attrs) in
    let behind = drop own told in
    let below = length (ids_of kids) in
    elem_first (plain_elem e.name (with_id (take own told) e.attrs)) (with_ids (take below behind) kids) (with_ids (drop below behind) rest)

-- nodes whose ids have the prefix, and in which no two are the same: the first is kept
abbrev pub with_first_ids : List ℕ → Nodes → Nodes
with_first_ids prefix nodes = with_ids (ids_kept prefix (ids_of nodes)) nodes
