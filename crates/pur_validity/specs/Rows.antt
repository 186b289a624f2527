-- Worked examples of validity: what the filter writes for an input, and beside it a neighbour that one rule refuses.
use Rattle.std.specs.Prelude.{ℕ, zero, suc, ◌≡◌, true, false, List, [], ◌∷◌, Some, None, codes}
use Rattle.pur_names.specs.declared.elements.Element.{Element}
use Rattle.pur_names.specs.declared.elements.Element.TheVariants.{A, B, Blockquote, Caption, Div, Ins, Li, P, Pre, Big, Table, Tbody, Td, Tfoot, Thead, Tr, Ul}
use Rattle.pur_modules.specs.declared.kinds.Doctype.TheVariants.{Strict}
use Rattle.pur_modules.specs.declared.kinds.Content.TheVariants.{Inline}
use Rattle.pur_settings.specs.Rules.{Rules, default_rules}
use Rattle.pur_tree.specs.Nodes.{Nodes, no_nodes, text_first, elem_first, nodes_append, bare}
use Rattle.pur_uripolicy.specs.HostRules.{PlainHostRule}
use Rattle.pur_validity.specs.Deciding.{are_valid}

-- a text, an element with its children, and nodes one behind the other
abbrev pub says : List ℕ → Nodes
says text = text_first text no_nodes

abbrev pub all : List Nodes → Nodes
all [] = no_nodes
all (first ∷ more) = nodes_append first (all more)

abbrev pub of : Element → List Nodes → Nodes
of element children = elem_first (bare element) (all children) no_nodes

-- so many elements, each in the one before
abbrev so_many : ℕ → Element → Nodes
so_many zero element = says (codes "x")
so_many (suc n) element = elem_first (bare element) (so_many n element) no_nodes

abbrev strict : Rules
strict = record default_rules { doctype = Strict }

abbrev only : List Element → Rules
only elements = record default_rules { elements = Some elements }

-- no host is denied
abbrev any_host : PlainHostRule
any_host = record { denied = []; host = None; external = true }

-- what is valid, and a neighbour that isn't
pub record Beside (rules : Rules) (fragment neighbour : Nodes) : Type 0 where
  pub valid : are_valid rules any_host fragment ≡ true
  pub other : are_valid rules any_host neighbour ≡ false

-- nothing, and text; text in what holds blocks alone
abbrev pub TextInAFragment : Type 0
TextInAFragment = Beside default_rules (says (codes "Hello")) (of Ul (says (codes "Hello") ∷ []))

-- `<b>1</b><p><b>2</b></p><b>3</b>`; a paragraph in `b`
abbrev pub BlocksInNoInline : Type 0
BlocksInNoInline = Beside default_rules
    (all (of B (says (codes "1") ∷ []) ∷ of P (of B (says (codes "2") ∷ []) ∷ []) ∷ of B (says (codes "3") ∷ []) ∷ []))
    (of B (says (codes "1") ∷ of P (says (codes "2") ∷ []) ∷ says (codes "3") ∷ []))

-- `<ul><li>a</li> <li>b</li></ul>`; a list without items
abbrev pub ListsHaveItems : Type 0
ListsHaveItems = Beside default_rules
    (of Ul (of Li (says (codes "a") ∷ []) ∷ says (codes " ") ∷ of Li (says (codes "b") ∷ []) ∷ []))
    (of Ul [])

-- `<table><caption>c</caption><tr><td>1</td></tr></table>`; the caption behind the row
abbrev pub CaptionsComeFirst : Type 0
CaptionsComeFirst = Beside default_rules
    (of Table (of Caption (says (codes "c") ∷ []) ∷ of Tr (of Td (says (codes "1") ∷ []) ∷ []) ∷ []))
    (of Table (of Tr (of Td (says (codes "1") ∷ []) ∷ []) ∷ of Caption (says (codes "c") ∷ []) ∷ []))

-- `<p>c</p>`; a table of a caption alone
abbrev pub TablesHaveBodies : Type 0
TablesHaveBodies = Beside default_rules (of P (says (codes "c") ∷ [])) (of Table (of Caption (says (codes "c") ∷ []) ∷ []))

-- a row of the cell `1`
abbrev row : Nodes
row = of Tr (of Td (says (codes "1") ∷ []) ∷ [])

-- a head, a foot and two bodies; a foot behind a body
abbrev pub FeetComeBeforeBodies : Type 0
FeetComeBeforeBodies = Beside default_rules
    (of Table (of Thead (row ∷ []) ∷ of Tfoot (row ∷ []) ∷ of Tbody (row ∷ []) ∷ of Tbody (row ∷ []) ∷ []))
    (of Table (of Thead (row ∷ []) ∷ of Tbody (row ∷ []) ∷ of Tfoot (row ∷ []) ∷ []))

-- two rows; a row beside a body
abbrev pub BodiesAreOfOneKind : Type 0
BodiesAreOfOneKind = Beside default_rules (of Table (row ∷ row ∷ [])) (of Table (of Tbody (row ∷ []) ∷ row ∷ []))

-- a body of a row; a cell directly in a body
abbrev pub CellsStandInRows : Type 0
CellsStandInRows = Beside default_rules
    (of Table (of Tbody (row ∷ []) ∷ []))
    (of Table (of Tbody (of Td (says (codes "1") ∷ []) ∷ []) ∷ []))

-- a row of a cell; a row of none
abbrev pub RowsHaveCells : Type 0
RowsHaveCells = Beside default_rules (of Table (row ∷ [])) (of Table (of Tr [] ∷ []))

-- `<a>1<b>2</b></a>`; a link in `b` in a link
abbrev pub LinksStandInNoLink : Type 0
LinksStandInNoLink = Beside default_rules
    (of A (says (codes "1") ∷ of B (says (codes "2") ∷ []) ∷ []))
    (of A (says (codes "1") ∷ of B (of A (says (codes "2") ∷ []) ∷ []) ∷ []))

-- `<pre><b>a</b></pre>`; `big` in it
abbrev pub NothingBigInPre : Type 0
NothingBigInPre = Beside default_rules (of Pre (of B (says (codes "a") ∷ []) ∷ [])) (of Pre (of B (of Big (says (codes "a") ∷ []) ∷ []) ∷ []))

-- `<p><ins></ins></p><div>x</div>`; the block in the `ins`, which is in a paragraph
abbrev pub EditsHoldWhatTheirParentHolds : Type 0
EditsHoldWhatTheirParentHolds = Beside default_rules
    (all (of P (of Ins [] ∷ []) ∷ of Div (says (codes "x") ∷ []) ∷ []))
    (of P (of Ins (of Div (says (codes "x") ∷ []) ∷ []) ∷ []))

-- in Strict a quote holds blocks, and text alone doesn't stand in it
abbrev pub StrictQuotesHoldBlocks : Type 0
StrictQuotesHoldBlocks = Beside strict (of Blockquote (of P (says (codes "x") ∷ []) ∷ [])) (of Blockquote (says (codes "x") ∷ []))

-- where `b` alone is permitted, a paragraph round it isn't
abbrev pub ElementsArePermitted : Type 0
ElementsArePermitted = Beside (only (B ∷ [])) (of B (says (codes "x") ∷ [])) (of P (of B (says (codes "x") ∷ []) ∷ []))

-- the fragment of a `span` holds no paragraph
abbrev pub FragmentsHaveParents : Type 0
FragmentsHaveParents = Beside (record default_rules { parent = Inline }) (says (codes "x")) (of P (says (codes "x") ∷ []))

-- 128 `div`s in one another; 129
abbrev pub LevelsEnd : Type 0
LevelsEnd = Beside default_rules (so_many 128 Div) (so_many 129 Div)
