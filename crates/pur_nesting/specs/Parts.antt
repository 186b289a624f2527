-- The parts of a table, and which child belongs to which (HTML 4.01, section 11.2; HTML Purifier's rules for tables).
use Rattle.std.specs.Prelude.{ℕ, Bool, true, false, not, nat_eq, if◌then◌else◌}
use Rattle.pur_names.specs.declared.elements.Element.{Element}
use Rattle.pur_names.specs.declared.elements.Element.TheVariants.{Caption, Col, Colgroup, Tbody, Tfoot, Thead, Tr}
use Rattle.pur_tree.specs.Nodes.{Nodes, no_nodes, text_first, elem_first}
use Rattle.pur_nesting.specs.declared.roles.Role.{Role}
use Rattle.pur_nesting.specs.declared.roles.Role.TheVariants.{Title, Column, ColumnGroup, Header, Footer, Body, Row, Stranger}
use Rattle.pur_nesting.specs.declared.roles.Part.{Part}
use Rattle.pur_nesting.specs.declared.roles.Part.TheVariants.{Lead, Captions, Columns, Heads, Feet, Bodies, Surplus}
use Rattle.pur_nesting.specs.declared.roles.Met.{Met}

-- what an element is to a table
abbrev pub role_of : Element → Role
role_of Caption = Title
role_of Col = Column
role_of Colgroup = ColumnGroup
role_of Thead = Header
role_of Tfoot = Footer
role_of Tbody = Body
role_of Tr = Row
role_of element = Stranger

abbrev pub role_rank : Role → ℕ
role_rank Title = 0
role_rank Column = 1
role_rank ColumnGroup = 2
role_rank Header = 3
role_rank Footer = 4
role_rank Body = 5
role_rank Row = 6
role_rank Stranger = 7

abbrev pub same_role : Role → Role → Bool
same_role a b = nat_eq (role_rank a) (role_rank b)

abbrev pub part_rank : Part → ℕ
part_rank Lead = 0
part_rank Captions = 1
part_rank Columns = 2
part_rank Heads = 3
part_rank Feet = 4
part_rank Bodies = 5
part_rank Surplus = 6

abbrev pub same_part : Part → Part → Bool
same_part a b = nat_eq (part_rank a) (part_rank b)

-- before any element: what stands here is the lead
abbrev pub at_first : Met
at_first = record { part = Lead; caption = false; columns = false; groups = false; head = false; foot = false }

-- after an element more: the first caption, the columns of the kind met first, the first head and the first foot are
-- parts of their own; later heads and feet are bodies, as bodies and rows are; all else is surplus
abbrev pub next : Met → Role → Met
next m Title = record m { part = if m.caption then Surplus else Captions; caption = true }
next m Column = record m { part = if m.groups then Surplus else Columns; columns = not m.groups }
next m ColumnGroup = record m { part = if m.columns then Surplus else Columns; groups = not m.columns }
next m Header = record m { part = if m.head then Bodies else Heads; head = true }
next m Footer = record m { part = if m.foot then Bodies else Feet; foot = true }
next m Body = record m { part = Bodies }
next m Row = record m { part = Bodies }
next m Stranger = record m { part = Surplus }

-- the children that belong to a part, in their order: where an element belongs is told by what was met before it, and a
-- text belongs where the element before it does
abbrev pub part : Part → Met → Nodes → Nodes
part wanted m no_nodes = no_nodes
part wanted m (text_first s rest) =
    if same_part wanted m.part then text_first s (part wanted m rest) else part wanted m rest
part wanted m (elem_first e kids rest) =
    if same_part wanted (next m (role_of e.name)).part
    then elem_first e kids (part wanted (next m (role_of e.name)) rest)
    else part wanted (next m (role_of e.name)) rest
