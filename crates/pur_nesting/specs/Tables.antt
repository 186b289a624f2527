-- A table whose parts are put in order (XHTML 1.0, the element declaration of `table`; HTML Purifier's rules for tables).
use Rattle.std.specs.Prelude.{ℕ, ◌+◌, Bool, true, false, not, ◌&&◌, ◌||◌, List, [], ◌∷◌, if◌then◌else◌}
use Rattle.pur_text.specs.Characters.{is_blank}
use Rattle.pur_names.specs.declared.elements.Element.{Element}
use Rattle.pur_names.specs.declared.elements.Element.TheVariants.{Caption, P, Tbody, Tr}
use Rattle.pur_names.specs.Elements.{same_element}
use Rattle.pur_modules.specs.Groups.{is_among}
use Rattle.pur_tree.specs.Nodes.{PlainElem, plain_elem, bare, Nodes, no_nodes, text_first, elem_first, nodes_append, has_no_nodes}
use Rattle.pur_tree.specs.Walks.{count_in_text}
use Rattle.pur_nesting.specs.declared.roles.Role.{Role}
use Rattle.pur_nesting.specs.declared.roles.Role.TheVariants.{Header, Footer}
use Rattle.pur_nesting.specs.declared.roles.Part.{Part}
use Rattle.pur_nesting.specs.declared.roles.Part.TheVariants.{Lead, Captions, Columns, Heads, Feet, Bodies, Surplus}
use Rattle.pur_nesting.specs.declared.permits.Permits.{Permits}
use Rattle.pur_nesting.specs.Parts.{role_of, at_first, part}

-- one of these elements is among the nodes
abbrev pub has_child : List Element → Nodes → Bool
has_child elements no_nodes = false
has_child elements (text_first s rest) = has_child elements rest
has_child elements (elem_first e kids rest) = is_among elements e.name || has_child elements rest

-- all nodes are texts of white space alone
abbrev pub are_blank : Nodes → Bool
are_blank no_nodes = true
are_blank (text_first s rest) = is_blank s && are_blank rest
are_blank (elem_first e kids rest) = false

-- the nodes without the texts before the first element
abbrev pub from_first_element : Nodes → Nodes
from_first_element no_nodes = no_nodes
from_first_element (text_first s rest) = from_first_element rest
from_first_element (elem_first e kids rest) = elem_first e kids rest

abbrev pub is_head_or_foot : Role → Bool
is_head_or_foot Header = true
is_head_or_foot Footer = true
is_head_or_foot role = false

-- an element as a body: a head or foot becomes a body that has its attributes, or its rows where no bodies are permitted
abbrev pub as_body : Bool → PlainElem → Nodes → Nodes
as_body tbody e kids =
    if is_head_or_foot (role_of e.name)
    then (if tbody then elem_first (plain_elem Tbody e.attrs) kids no_nodes else from_first_element kids)
    else elem_first e kids no_nodes

abbrev pub as_bodies : Bool → Nodes → Nodes
as_bodies tbody no_nodes = no_nodes
as_bodies tbody (text_first s rest) = text_first s (as_bodies tbody rest)
as_bodies tbody (elem_first e kids rest) = nodes_append (as_body tbody e kids) (as_bodies tbody rest)

-- the rows at the front, with the texts among and behind them
abbrev pub run_of_rows : Nodes → Nodes
run_of_rows no_nodes = no_nodes
run_of_rows (text_first s rest) = text_first s (run_of_rows rest)
run_of_rows (elem_first e kids rest) = if same_element e.name Tr then elem_first e kids (run_of_rows rest) else no_nodes

-- each run of rows in a new body of its own; `in_run`: a run goes on here, and what is left of it was put into its body
abbrev pub runs_in_bodies : Bool → Nodes → Nodes
runs_in_bodies in_run no_nodes = no_nodes
runs_in_bodies in_run (text_first s rest) =
    if in_run then runs_in_bodies true rest else text_first s (runs_in_bodies false rest)
runs_in_bodies in_run (elem_first e kids rest) =
    if same_element e.name Tr
    then (if in_run then runs_in_bodies true rest else elem_first (bare Tbody) (elem_first e kids (run_of_rows rest)) (runs_in_bodies true rest))
    else elem_first e kids (runs_in_bodies false rest)

-- bodies of one kind: where there is a body, rows stand in bodies too
abbrev pub of_one_kind : Nodes → Nodes
of_one_kind bodies = if has_child (Tbody ∷ []) bodies then runs_in_bodies false bodies else bodies

-- a table of its parts in their order
abbrev pub table : PlainElem → Nodes → Nodes → Nodes → Nodes → Nodes → Nodes → Nodes
table e lead captions columns heads feet bodies =
    elem_first e
    (nodes_append lead (nodes_append captions (nodes_append columns (nodes_append heads (nodes_append feet (of_one_kind bodies))))))
    no_nodes

-- a paragraph of a caption's children, where it is permitted and there is more than white space
abbrev pub paragraph_of : Bool → Nodes → Nodes
paragraph_of paragraph kids = if paragraph && not (are_blank kids) then elem_first (bare P) kids no_nodes else no_nodes

-- what stands for a table without bodies: a paragraph that holds what the caption held, or nothing
abbrev pub without_bodies : Bool → Nodes → Nodes
without_bodies paragraph no_nodes = no_nodes
without_bodies paragraph (text_first s rest) = no_nodes
without_bodies paragraph (elem_first e kids rest) = paragraph_of paragraph kids

-- a table of its parts; where there are no bodies the foot becomes the body, and where there is no foot the head
abbrev pub table_of_parts : Permits → PlainElem → (Part → Nodes) → Nodes
table_of_parts p e parts =
    if not (has_no_nodes (parts Bodies))
    then table e (parts Lead) (parts Captions) (parts Columns) (parts Heads) (parts Feet) (as_bodies p.tbody (parts Bodies))
    else (if not (has_no_nodes (parts Feet))
    then table e (parts Lead) (parts Captions) (parts Columns) (parts Heads) no_nodes (as_bodies p.tbody (parts Feet))
    else (if not (has_no_nodes (parts Heads))
    then table e (parts Lead) (parts Captions) (parts Columns) no_nodes no_nodes (as_bodies p.tbody (parts Heads))
    else without_bodies p.paragraph (parts Captions)))

-- the parts of a table with these children
abbrev pub parts_of : Nodes → Part → Nodes
parts_of kids wanted = part wanted at_first kids

-- what stands in the place of a table, of itself and its children
abbrev pub repaired_table : Permits → PlainElem → Nodes → Nodes
repaired_table p e kids = table_of_parts p e (parts_of kids)

-- how often a character stands in captions among nodes
abbrev pub count_in_captions : ℕ → Nodes → ℕ
count_in_captions c no_nodes = 0
count_in_captions c (text_first s rest) = count_in_captions c rest
count_in_captions c (elem_first e kids rest) = (if same_element e.name Caption then count_in_text c kids else 0) + count_in_captions c rest

-- how often a character stands in the caption of a table without bodies, if that becomes no paragraph
abbrev pub lost_without_bodies : ℕ → Permits → (Part → Nodes) → ℕ
lost_without_bodies c p parts =
    if has_no_nodes (parts Bodies) && (has_no_nodes (parts Feet) && (has_no_nodes (parts Heads) && has_no_nodes (without_bodies p.paragraph (parts Captions))))
    then count_in_captions c (parts Captions)
    else 0

-- how often a character stands in the captions of a table that vanish
abbrev pub lost_in_table : ℕ → Permits → Nodes → ℕ
lost_in_table c p kids = count_in_captions c (parts_of kids Surplus) + lost_without_bodies c p (parts_of kids)
