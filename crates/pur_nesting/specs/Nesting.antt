-- Nesting repair (HTML Purifier's third strategy): each element is repaired when its children are.
use Rattle.std.specs.Prelude.{ℕ, Bool, not, ◌&&◌, List, [], ◌∷◌, if◌then◌else◌, nat_lt, length}
use Rattle.pur_names.specs.declared.elements.Element.{Element}
use Rattle.pur_names.specs.declared.elements.Element.TheVariants.{Dd, Dir, Dl, Dt, Li, Menu, Ol, P, Table, Tbody, Td, Tfoot, Th, Thead, Tr, Ul}
use Rattle.pur_names.specs.Elements.{same_element}
use Rattle.pur_settings.specs.Rules.{Rules, permits_element}
use Rattle.pur_tree.specs.Nodes.{PlainElem, Nodes, no_nodes, elem_first}
use Rattle.pur_tree.specs.Walks.{walk, lost_in_walk, joined_nodes}
use Rattle.pur_nesting.specs.declared.permits.Permits.{Permits}
use Rattle.pur_nesting.specs.Tables.{has_child, repaired_table, lost_in_table}

-- which of the elements that repair puts in the settings permit
abbrev pub permits_of : Rules → Permits
permits_of rules = record { paragraph = permits_element rules P; tbody = permits_element rules Tbody }

-- the children of which an element must have one, if there are such (XHTML 1.0, the element declarations)
abbrev pub needed_by : Element → List Element
needed_by Ul = Li ∷ []
needed_by Ol = Li ∷ []
needed_by Dir = Li ∷ []
needed_by Menu = Li ∷ []
needed_by Dl = Dt ∷ Dd ∷ []
needed_by Tr = Th ∷ Td ∷ []
needed_by Thead = Tr ∷ []
needed_by Tfoot = Tr ∷ []
needed_by Tbody = Tr ∷ []
needed_by element = []

-- the element must have a child of some kind, and has none
abbrev pub vanishes : Element → Nodes → Bool
vanishes name kids = nat_lt 0 (length (needed_by name)) && not (has_child (needed_by name) kids)

-- what stands in an element's place, of itself and its repaired children
abbrev pub repair : Permits → PlainElem → Nodes → Nodes
repair p e kids =
    if same_element e.name Table then repaired_table p e kids
    else (if vanishes e.name kids then no_nodes else elem_first e kids no_nodes)

-- nodes after nesting repair: each element is repaired when its children are, and texts that became neighbours are joined
abbrev pub nested : Permits → Nodes → Nodes
nested p nodes = joined_nodes (walk (repair p) nodes)

-- how often a character, given as its number, stands in captions that vanish
abbrev pub lost_in_nesting : ℕ → Permits → Nodes → ℕ
lost_in_nesting c p nodes = lost_in_walk (repair p) (λ e kids. if same_element e.name Table then lost_in_table c p kids else 0) nodes
