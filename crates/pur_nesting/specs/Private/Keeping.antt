-- What a property of nodes must allow so that nesting repair keeps it.
use Rattle.std.specs.Prelude.{List, ℕ, ◌++◌, ◌≡◌, true}
use Rattle.pur_names.specs.declared.elements.Element.TheVariants.{Caption, P, Table, Tbody, Tfoot, Thead, Tr}
use Rattle.pur_attrlist.specs.Attributes.{Attribute}
use Rattle.pur_tree.specs.Nodes.{plain_elem, bare, Nodes}
use Rattle.pur_tree.specs.Properties.{Property, Holds}
use Rattle.pur_nesting.specs.declared.permits.Permits.{Permits}

-- texts may be joined; heads and feet may become bodies, and their rows may stand in the table; a body may lose its
-- attributes; rows of the table may stand in bodies; and what a caption holds may stand in a paragraph in place of the table
pub record StaysInRepair (q : Property) (p : Permits) : Type 0 where
  pub joined : (w : q.Where) (s t : List ℕ) → q.text w s → q.text w t → q.text w (s ++ t)
  pub paragraph : p.paragraph ≡ true → (w : q.Where) (attrs : List Attribute) → q.elem w (plain_elem Table attrs) → q.elem w (bare P)
  pub caption : (w : q.Where) (kids : Nodes) → Holds q (q.inside (q.inside w Table) Caption) kids → Holds q (q.inside w P) kids
  pub head : p.tbody ≡ true → (w : q.Where) (attrs : List Attribute) → q.elem (q.inside w Table) (plain_elem Thead attrs) → q.elem (q.inside w Table) (plain_elem Tbody attrs)
  pub foot : p.tbody ≡ true → (w : q.Where) (attrs : List Attribute) → q.elem (q.inside w Table) (plain_elem Tfoot attrs) → q.elem (q.inside w Table) (plain_elem Tbody attrs)
  pub body : (w : q.Where) (attrs : List Attribute) → q.elem (q.inside w Table) (plain_elem Tbody attrs) → q.elem (q.inside w Table) (bare Tbody)
  pub in_head : (w : q.Where) (kids : Nodes) → Holds q (q.inside (q.inside w Table) Thead) kids → Holds q (q.inside (q.inside w Table) Tbody) kids
  pub in_foot : (w : q.Where) (kids : Nodes) → Holds q (q.inside (q.inside w Table) Tfoot) kids → Holds q (q.inside (q.inside w Table) Tbody) kids
  pub out_of_head : (w : q.Where) (kids : Nodes) → Holds q (q.inside (q.inside w Table) Thead) kids → Holds q (q.inside w Table) kids
  pub out_of_foot : (w : q.Where) (kids : Nodes) → Holds q (q.inside (q.inside w Table) Tfoot) kids → Holds q (q.inside w Table) kids
  pub row : (w : q.Where) (attrs : List Attribute) → q.elem (q.inside w Table) (plain_elem Tr attrs) → q.elem (q.inside (q.inside w Table) Tbody) (plain_elem Tr attrs)
  pub in_row : (w : q.Where) (kids : Nodes) → Holds q (q.inside (q.inside w Table) Tr) kids → Holds q (q.inside (q.inside (q.inside w Table) Tbody) Tr) kids
  pub beside_rows : (w : q.Where) (s : List ℕ) → q.text (q.inside w Table) s → q.text (q.inside (q.inside w Table) Tbody) s
