-- Worked examples of nesting repair.
use Rattle.std.specs.Prelude.{ℕ, ◌≡◌, List, [], ◌∷◌, true, false, codes}
use Rattle.pur_names.specs.declared.elements.Element.{Element}
use Rattle.pur_names.specs.declared.elements.Element.TheVariants.{Caption, Col, Colgroup, Dd, Dl, Div, P, Table, Tbody, Td, Tfoot, Thead, Tr, Ul}
use Rattle.pur_tree.specs.Nodes.{bare, plain_elem, Nodes, no_nodes, text_first, elem_first, nodes_append}
use Rattle.pur_nesting.specs.declared.permits.Permits.{Permits}
use Rattle.pur_nesting.specs.Nesting.{nested, lost_in_nesting}

-- all is permitted
abbrev all : Permits
all = record { paragraph = true; tbody = true }

-- no bodies are permitted
abbrev no_bodies : Permits
no_bodies = record { paragraph = true; tbody = false }

-- no paragraphs are permitted
abbrev no_paragraphs : Permits
no_paragraphs = record { paragraph = false; tbody = true }

-- nodes one after another
abbrev all_of : List Nodes → Nodes
all_of [] = no_nodes
all_of (nodes ∷ more) = nodes_append nodes (all_of more)

-- an element that holds nodes
abbrev el : Element → List Nodes → Nodes
el name kids = elem_first (bare name) (all_of kids) no_nodes

-- the same with a title
abbrev titled : Element → List Nodes → Nodes
titled name kids = elem_first (plain_elem name ((codes "title", codes "t") ∷ [])) (all_of kids) no_nodes

abbrev says : List ℕ → Nodes
says text = text_first text no_nodes

abbrev space : Nodes
space = says (codes " ")

-- a row of one cell
abbrev row : List ℕ → Nodes
row text = el Tr (el Td (says text ∷ []) ∷ [])

-- `<ul></ul>x` gives `x`
abbrev pub DropsAnEmptyList : Type 0
DropsAnEmptyList = nested all (all_of (el Ul [] ∷ says (codes "x") ∷ [])) ≡ says (codes "x")

-- `<dl> </dl><dl><dd></dd></dl>` gives `<dl><dd></dd></dl>`
abbrev pub KeepsADefinition : Type 0
KeepsADefinition = nested all (all_of (el Dl (space ∷ []) ∷ el Dl (el Dd [] ∷ []) ∷ [])) ≡ el Dl (el Dd [] ∷ [])

-- `a<ul> </ul>b` gives `ab`
abbrev pub JoinsNeighbours : Type 0
JoinsNeighbours = nested all (all_of (says (codes "a") ∷ el Ul (space ∷ []) ∷ says (codes "b") ∷ [])) ≡ says (codes "ab")

-- `<table><tr><td>1</td><td>2</td></tr><caption>c</caption></table>` gives
-- `<table><caption>c</caption><tr><td>1</td><td>2</td></tr></table>`
abbrev pub PutsTheCaptionFirst : Type 0
PutsTheCaptionFirst =
    let cells = el Tr (el Td (says (codes "1") ∷ []) ∷ el Td (says (codes "2") ∷ []) ∷ []) in
    nested all (el Table (cells ∷ el Caption (says (codes "c") ∷ []) ∷ [])) ≡ el Table (el Caption (says (codes "c") ∷ []) ∷ cells ∷ [])

-- `<table><caption>c</caption></table>` gives `<p>c</p>`
abbrev pub MakesAParagraph : Type 0
MakesAParagraph = nested all (el Table (el Caption (says (codes "c") ∷ []) ∷ [])) ≡ el P (says (codes "c") ∷ [])

-- where no `p` is permitted it gives nothing, and its character is lost
abbrev pub LosesACaption : Type 0
LosesACaption =
    let table = el Table (el Caption (says (codes "c") ∷ []) ∷ []) in
    (nested no_paragraphs table ≡ no_nodes) × (lost_in_nesting 0x63 no_paragraphs table ≡ 1)

-- `<table> <caption> </caption> <col></table>` gives nothing
abbrev pub DropsABlankTable : Type 0
DropsABlankTable = nested all (el Table (space ∷ el Caption (space ∷ []) ∷ space ∷ el Col [] ∷ [])) ≡ no_nodes

-- `<table><tbody>1</tbody><thead>2</thead><tr>3</tr><thead>4</thead></table>`, with a cell for each number, gives
-- `<table><thead>2</thead><tbody>1</tbody><tbody>3</tbody><tbody>4</tbody></table>`
abbrev pub PutsBodiesLast : Type 0
PutsBodiesLast =
    nested all (el Table (el Tbody (row (codes "1") ∷ []) ∷ el Thead (row (codes "2") ∷ []) ∷ row (codes "3") ∷ el Thead (row (codes "4") ∷ []) ∷ []))
    ≡ el Table (el Thead (row (codes "2") ∷ []) ∷ el Tbody (row (codes "1") ∷ []) ∷ el Tbody (row (codes "3") ∷ []) ∷ el Tbody (row (codes "4") ∷ []) ∷ [])

-- `<table><thead>x</thead></table>` gives `<table><tbody>x</tbody></table>`
abbrev pub MakesTheHeadABody : Type 0
MakesTheHeadABody = nested all (el Table (el Thead (row (codes "x") ∷ []) ∷ [])) ≡ el Table (el Tbody (row (codes "x") ∷ []) ∷ [])

-- and `<table>x</table>` where no `tbody` is permitted
abbrev pub TakesTheRowsOfTheHead : Type 0
TakesTheRowsOfTheHead = nested no_bodies (el Table (el Thead (row (codes "x") ∷ []) ∷ [])) ≡ el Table (row (codes "x") ∷ [])

-- `<table><thead>1</thead><tfoot>2</tfoot></table>` gives `<table><thead>1</thead><tbody>2</tbody></table>`
abbrev pub MakesTheFootABody : Type 0
MakesTheFootABody =
    nested all (el Table (el Thead (row (codes "1") ∷ []) ∷ el Tfoot (row (codes "2") ∷ []) ∷ []))
    ≡ el Table (el Thead (row (codes "1") ∷ []) ∷ el Tbody (row (codes "2") ∷ []) ∷ [])

-- `<table><tbody>1</tbody><tfoot>2</tfoot></table>` gives `<table><tfoot>2</tfoot><tbody>1</tbody></table>`
abbrev pub PutsTheFootBeforeBodies : Type 0
PutsTheFootBeforeBodies =
    nested all (el Table (el Tbody (row (codes "1") ∷ []) ∷ el Tfoot (row (codes "2") ∷ []) ∷ []))
    ≡ el Table (el Tfoot (row (codes "2") ∷ []) ∷ el Tbody (row (codes "1") ∷ []) ∷ [])

-- elements round a table that vanishes stay: `<div><div><table></table></div></div>` gives `<div><div></div></div>`
abbrev pub DropsAnEmptyTable : Type 0
DropsAnEmptyTable = nested all (el Div (el Div (el Table [] ∷ []) ∷ [])) ≡ el Div (el Div [] ∷ [])

-- a row without cells vanishes, and then its body and its table do
abbrev pub DropsRowsWithoutCells : Type 0
DropsRowsWithoutCells = nested all (el Table (el Tbody (el Tr (space ∷ []) ∷ space ∷ []) ∷ [])) ≡ no_nodes

-- a head more becomes a body that keeps its attributes and its white space:
-- `<table><thead>1</thead><tr>2</tr><thead title="t"> 3 </thead> </table>` gives
-- `<table><thead>1</thead><tbody>2</tbody><tbody title="t"> 3 </tbody> </table>`
abbrev pub KeepsAttributesOfAHead : Type 0
KeepsAttributesOfAHead =
    nested all (el Table (el Thead (row (codes "1") ∷ []) ∷ row (codes "2") ∷ titled Thead (space ∷ row (codes "3") ∷ space ∷ []) ∷ space ∷ []))
    ≡ el Table (el Thead (row (codes "1") ∷ []) ∷ el Tbody (row (codes "2") ∷ []) ∷ titled Tbody (space ∷ row (codes "3") ∷ space ∷ []) ∷ space ∷ [])

-- where no `tbody` is permitted a foot more gives its rows: the white space before its first row vanishes, and that behind
-- it in the table stays: `<table><tr>1</tr><tfoot>2</tfoot><tfoot> 3</tfoot> </table>` gives
-- `<table><tfoot>2</tfoot><tr>1</tr><tr>3</tr> </table>`
abbrev pub TakesTheRowsOfAFoot : Type 0
TakesTheRowsOfAFoot =
    nested no_bodies (el Table (row (codes "1") ∷ el Tfoot (row (codes "2") ∷ []) ∷ el Tfoot (space ∷ row (codes "3") ∷ []) ∷ space ∷ []))
    ≡ el Table (el Tfoot (row (codes "2") ∷ []) ∷ row (codes "1") ∷ row (codes "3") ∷ space ∷ [])

-- white space behind the last row of a run goes into its new body, and that before the first element stays first; of two
-- captions the first stays, and of two kinds of columns the kind met first
abbrev pub PutsRunsIntoBodies : Type 0
PutsRunsIntoBodies =
    let table = el Table (
    space ∷ row (codes "1") ∷ space ∷ el Tbody (row (codes "2") ∷ []) ∷ row (codes "3") ∷ row (codes "4") ∷ el Caption (says (codes "c") ∷ [])
    ∷ el Caption (says (codes "d") ∷ []) ∷ space ∷ el Col [] ∷ el Colgroup [] ∷ el Col [] ∷ [])
    in
    (nested all table ≡ el Table (
    space ∷ el Caption (says (codes "c") ∷ []) ∷ el Col [] ∷ el Col [] ∷ el Tbody (row (codes "1") ∷ space ∷ [])
    ∷ el Tbody (row (codes "2") ∷ []) ∷ el Tbody (row (codes "3") ∷ row (codes "4") ∷ []) ∷ [])
    ) × (lost_in_nesting 0x64 all table ≡ 1)
