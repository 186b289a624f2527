-- Which element holds which content, and which excludes which (XHTML 1.0, the two DTDs and appendix B).
use Rattle.std.specs.Prelude.{Bool, true, false, List, [], ◌∷◌, ◌++◌, Option, Some, None, unwrap_or, if◌then◌else◌}
use Rattle.std.specs.List.{list_any}
use Rattle.pur_names.specs.declared.elements.Element.{Element}
use Rattle.pur_names.specs.declared.elements.Element.TheVariants.{A, Address, Bdo, Big, Blockquote, Br, Button, Caption, Center, Col, Colgroup, Dd, Del, Dir, Div, Dl, Dt, Fieldset, Font, Form, H1, H2, H3, H4, H5, H6, Hr, Img, Input, Ins, Label, Legend, Li, Menu, Ol, Optgroup, OptionItem, P, Pre, Select, Small, Span, Sub, Sup, Table, Tbody, Td, Textarea, Tfoot, Th, Thead, Tr, Ul}
use Rattle.pur_modules.specs.declared.kinds.Content.{Content}
use Rattle.pur_modules.specs.declared.kinds.Content.TheVariants.{AddressMix, Block, Cells, Cols, FieldsetMix, Flow, Inline, Items, Nothing, OptionItems, Options, Pairs, Rows, TableParts, TextOnly}
use Rattle.pur_modules.specs.declared.kinds.Doctype.{Doctype}
use Rattle.pur_modules.specs.declared.kinds.Doctype.TheVariants.{Strict, Transitional}
use Rattle.pur_modules.specs.Groups.{is_among, fontstyle, phrase}

-- a content kind and elements that hold it
pub record Holding : Type 0 where
  pub content : Content
  pub holders : List Element

abbrev pub holds : Content → List Element → Holding
holds content holders = record { content = content; holders = holders }

-- what marks of editing hold: inline content where their parent holds inline or address content, and flow elsewhere
abbrev pub edit_content : Content → Content
edit_content Inline = Inline
edit_content AddressMix = Inline
edit_content parent = Flow

-- the rows that hold in both doctypes; the elements that only Transitional has hold the same in Strict
abbrev pub holdings : List Holding
holdings =
    holds Inline (fontstyle Transitional ++ phrase ++ Span ∷ Bdo ∷ A ∷ P ∷ H1 ∷ H2 ∷ H3 ∷ H4 ∷ H5 ∷ H6 ∷ Pre ∷ Dt ∷ Caption ∷ Label ∷ Legend ∷ [])
    ∷ holds Flow (Div ∷ Li ∷ Dd ∷ Th ∷ Td ∷ Center ∷ Button ∷ [])
    ∷ holds Items (Ul ∷ Ol ∷ Dir ∷ Menu ∷ [])
    ∷ holds Pairs (Dl ∷ [])
    ∷ holds TableParts (Table ∷ [])
    ∷ holds Rows (Thead ∷ Tfoot ∷ Tbody ∷ [])
    ∷ holds Cells (Tr ∷ [])
    ∷ holds Cols (Colgroup ∷ [])
    ∷ holds Options (Select ∷ [])
    ∷ holds OptionItems (Optgroup ∷ [])
    ∷ holds TextOnly (OptionItem ∷ Textarea ∷ [])
    ∷ holds FieldsetMix (Fieldset ∷ [])
    ∷ holds Nothing (Br ∷ Hr ∷ Img ∷ Col ∷ Input ∷ [])
    ∷ []

-- the rows in which the doctypes differ
abbrev pub doctype_holdings : Doctype → List Holding
doctype_holdings Strict = holds Inline (Address ∷ []) ∷ holds Block (Blockquote ∷ Form ∷ []) ∷ []
doctype_holdings Transitional = holds AddressMix (Address ∷ []) ∷ holds Flow (Blockquote ∷ Form ∷ []) ∷ []

-- the content of the row that has the element
abbrev pub content_in : List Holding → Element → Option Content
content_in [] element = None
content_in (row ∷ rows) element = if is_among row.holders element then Some row.content else content_in rows element

-- all rows, below a parent that holds some content
abbrev pub all_holdings : Doctype → Content → List Holding
all_holdings doctype parent = holdings ++ holds (edit_content parent) (Ins ∷ Del ∷ []) ∷ doctype_holdings doctype

-- the content that an element holds, below a parent that holds some content; each element is in a row
unfoldable pub content_held : Doctype → Element → Content → Content
content_held doctype element parent = unwrap_or (content_in (all_holdings doctype parent) element) Nothing

-- the elements declared EMPTY
abbrev pub is_empty_element : Element → Bool
is_empty_element element = is_among (Br ∷ Hr ∷ Img ∷ Col ∷ Input ∷ []) element

-- whether a content allows nothing at all
abbrev pub is_nothing : Content → Bool
is_nothing Nothing = true
is_nothing content = false

-- what must not stand in an element, at any depth (XHTML 1.0, appendix B); that `font` must not stand in `pre`, and `a`
-- in `button`, is this filter's own
abbrev pub excluded_by : Element → List Element
excluded_by A = A ∷ []
excluded_by Pre = Img ∷ Big ∷ Small ∷ Sub ∷ Sup ∷ Font ∷ []
excluded_by Form = Form ∷ []
excluded_by Label = Label ∷ []
excluded_by Button = A ∷ Input ∷ Select ∷ Textarea ∷ Label ∷ Button ∷ Form ∷ Fieldset ∷ []
excluded_by element = []

-- whether an element must not stand in another, at any depth
abbrev pub is_excluded : Element → Element → Bool
is_excluded outer inner = is_among (excluded_by outer) inner

-- whether an element must not stand inside of others, of which it is enough that one excludes it
abbrev pub is_excluded_in : List Element → Element → Bool
is_excluded_in outer element = list_any (λ one. is_excluded one element) outer
