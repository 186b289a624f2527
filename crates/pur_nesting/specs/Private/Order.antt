-- Whether nodes need no repair, as it is found out by one walk along the children of each element.
use Rattle.std.specs.Prelude.{ℕ, Bool, true, false, not, ◌&&◌, ◌||◌, nat_le, if◌then◌else◌, Option, Some, None}
use Rattle.pur_text.specs.Characters.{is_blank}
use Rattle.pur_names.specs.declared.elements.Element.{Element}
use Rattle.pur_names.specs.declared.elements.Element.TheVariants.{Table}
use Rattle.pur_names.specs.Elements.{same_element}
use Rattle.pur_tree.specs.Nodes.{Nodes, no_nodes, text_first, elem_first, starts_with_text}
use Rattle.pur_nesting.specs.declared.roles.Role.{Role}
use Rattle.pur_nesting.specs.declared.roles.Role.TheVariants.{Title, Column, ColumnGroup, Header, Footer, Body, Row, Stranger}
use Rattle.pur_nesting.specs.declared.settled.Order.{Order}
use Rattle.pur_nesting.specs.Nesting.{vanishes}
use Rattle.pur_nesting.specs.Parts.{role_of}

-- how far into a table's word an element of some role stands: 0 a caption, 1 columns of the one kind, 2 a head, 3 a foot,
-- 4 bodies of the one kind; `g`: the columns are groups; `b`: the bodies are no bare rows
abbrev pub stage : Bool → Bool → Role → ℕ
stage g b Title = 0
stage g b Column = if g then 9 else 1
stage g b ColumnGroup = if g then 1 else 9
stage g b Header = 2
stage g b Footer = 3
stage g b Body = if b then 4 else 9
stage g b Row = if b then 9 else 4
stage g b Stranger = 9

-- the least stage that may follow
abbrev pub after : Role → ℕ
after Title = 1
after Column = 1
after ColumnGroup = 1
after Header = 3
after Footer = 4
after Body = 4
after Row = 4
after Stranger = 9

-- a table's children go on in order from a stage, and have bodies (or had some before)
abbrev pub goes_on : Bool → Bool → ℕ → Bool → Nodes → Bool
goes_on g b s had no_nodes = had
goes_on g b s had (text_first t rest) = is_blank t && goes_on g b s had rest
goes_on g b s had (elem_first e kids rest) =
    (nat_le s (stage g b (role_of e.name)) && nat_le (stage g b (role_of e.name)) 4)
    && goes_on g b (after (role_of e.name)) (had || nat_le 4 (stage g b (role_of e.name))) rest

-- the same after a step that may have failed
abbrev pub goes_from : Bool → Bool → Option Order → Nodes → Bool
goes_from g b None rest = false
goes_from g b (Some o) rest = goes_on g b o.stage o.had rest

-- a table's children are in order, whatever the kinds of columns and bodies
abbrev pub is_in_order : Nodes → Bool
is_in_order kids = goes_on false false 0 false kids || (goes_on false true 0 false kids || (goes_on true false 0 false kids || goes_on true true 0 false kids))

-- whether nodes need no repair
abbrev pub is_settled : Nodes → Bool
is_settled no_nodes = true
is_settled (text_first s rest) = not (starts_with_text rest) && is_settled rest
is_settled (elem_first e kids rest) =
    not (vanishes e.name kids) && ((not (same_element e.name Table) || is_in_order kids) && (is_settled kids && is_settled rest))

-- the same behind a text, or not
abbrev pub is_settled_after : Bool → Nodes → Bool
is_settled_after after_text nodes = not (starts_with_text nodes && after_text) && is_settled nodes

-- the same after a step that may have failed
abbrev pub is_settled_from : Option Bool → Nodes → Bool
is_settled_from None rest = false
is_settled_from (Some after_text) rest = is_settled_after after_text rest

-- an element of this name and with these children needs no repair
abbrev pub is_settled_element : Element → Nodes → Bool
is_settled_element name kids = not (vanishes name kids) && ((not (same_element name Table) || is_in_order kids) && is_settled kids)
