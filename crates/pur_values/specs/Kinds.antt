-- The kinds of the attributes' values (HTML 4.01, the index of attributes; XHTML 1.0, the attribute lists of the DTDs): a
-- table of elements, attributes and the kind of their values. URIs, styles and the names of anchors have no row.
use Rattle.std.specs.Prelude.{not, ◌&&◌, ◌||◌, Bool, List, [], ◌∷◌, ℕ, Option, Some, None, if◌then◌else◌, filter}
use Rattle.std.specs.List.{list_any}
use Rattle.pur_names.specs.Attributes.{same_attr}
use Rattle.pur_names.specs.Elements.{same_element, all_elements}
use Rattle.pur_names.specs.declared.attributes.Attr.{Attr}
use Rattle.pur_names.specs.declared.attributes.Attr.TheVariants as attr
use Rattle.pur_names.specs.declared.elements.Element.{Element}
use Rattle.pur_names.specs.declared.elements.Element.TheVariants.{A, Br, Button, Caption, Col, Colgroup, Dir, Div, Dl, Font, Form, H1, H2, H3, H4, H5, H6, Hr, Img, Input, Legend, Li, Menu, Ol, Optgroup, OptionItem, P, Pre, Select, Table, Tbody, Td, Textarea, Tfoot, Th, Thead, Tr, Ul}
use Rattle.pur_modules.specs.AttributeLists.{attributes_of}
use Rattle.pur_modules.specs.Groups.{is_among}
use Rattle.pur_modules.specs.declared.kinds.Doctype.{Doctype}
use Rattle.pur_modules.specs.declared.kinds.Doctype.TheVariants.{Strict, Transitional}
use Rattle.pur_values.specs.Choices.{words_of}
use Rattle.pur_values.specs.declared.kinds.ValueKind.{ValueKind}
use Rattle.pur_values.specs.declared.kinds.ValueKind.TheVariants as kind

-- one row
pub record Row : Type 0 where
  pub elements : List Element
  pub attrs : List Attr
  pub kind : Element → Attr → ValueKind

-- a row of these
abbrev pub row : List Element → List Attr → (Element → Attr → ValueKind) → Row
row elements attrs kind = record { elements = elements; attrs = attrs; kind = kind }

-- a kind that is the same for each
abbrev pub are : ValueKind → Element → Attr → ValueKind
are k element attr = k

-- one of the words that the attribute takes there
abbrev pub keyword : Element → Attr → ValueKind
keyword element attr = kind.Keyword element attr

-- the attribute's own name
abbrev pub flag : Element → Attr → ValueKind
flag element attr = kind.Flag attr

-- every element but a line break
abbrev pub but_a_break : List Element
but_a_break = filter (λ element. not (same_element element Br)) all_elements

-- columns, cells and what holds them
abbrev pub parts_of_tables : List Element
parts_of_tables = Tr ∷ Thead ∷ Tbody ∷ Tfoot ∷ Col ∷ Colgroup ∷ Td ∷ Th ∷ []

-- paragraphs, divisions and headings
abbrev pub blocks : List Element
blocks = P ∷ Div ∷ H1 ∷ H2 ∷ H3 ∷ H4 ∷ H5 ∷ H6 ∷ []

-- the rows
abbrev pub table : List Row
table =
    row all_elements (attr.Id ∷ []) (are kind.Id) ∷ row all_elements (attr.Class ∷ []) (are kind.Class)
    ∷ row all_elements (attr.Title ∷ []) (are kind.Text) ∷ row but_a_break (attr.Lang ∷ attr.XmlLang ∷ []) (are kind.Lang)
    ∷ row but_a_break (attr.Dir ∷ []) keyword ∷ row (A ∷ []) (attr.Rel ∷ []) (are kind.Rel)
    ∷ row (A ∷ []) (attr.Target ∷ []) keyword ∷ row (Img ∷ Input ∷ []) (attr.Alt ∷ []) (are kind.Text)
    ∷ row (Img ∷ Table ∷ Td ∷ Th ∷ Hr ∷ []) (attr.Width ∷ []) (are kind.Length)
    ∷ row (Img ∷ Td ∷ Th ∷ []) (attr.Height ∷ []) (are kind.Length)
    ∷ row (Img ∷ Table ∷ Caption ∷ Legend ∷ Hr ∷ []) (attr.Align ∷ []) keyword
    ∷ row (Img ∷ []) (attr.Border ∷ attr.Hspace ∷ attr.Vspace ∷ []) (are kind.Pixels)
    ∷ row (Table ∷ []) (attr.Summary ∷ []) (are kind.Text) ∷ row (Table ∷ []) (attr.Border ∷ []) (are kind.Pixels)
    ∷ row (Table ∷ []) (attr.Frame ∷ attr.Rules ∷ []) keyword
    ∷ row (Table ∷ []) (attr.Cellspacing ∷ attr.Cellpadding ∷ []) (are kind.Length)
    ∷ row (Table ∷ Tr ∷ Td ∷ Th ∷ []) (attr.Bgcolor ∷ []) (are kind.Color)
    ∷ row parts_of_tables (attr.Align ∷ attr.Valign ∷ []) keyword
    ∷ row (Col ∷ Colgroup ∷ []) (attr.Span ∷ []) (are (kind.Number 1 1000))
    ∷ row (Col ∷ Colgroup ∷ []) (attr.Width ∷ []) (are kind.MultiLength)
    ∷ row (Td ∷ Th ∷ []) (attr.Abbr ∷ []) (are kind.Text) ∷ row (Td ∷ Th ∷ []) (attr.Scope ∷ []) keyword
    ∷ row (Td ∷ Th ∷ []) (attr.Rowspan ∷ attr.Colspan ∷ []) (are (kind.Number 1 1000))
    ∷ row (Td ∷ Th ∷ []) (attr.Nowrap ∷ []) flag ∷ row blocks (attr.Align ∷ []) keyword
    ∷ row (Hr ∷ []) (attr.Noshade ∷ []) flag ∷ row (Hr ∷ []) (attr.Size ∷ []) (are kind.Pixels)
    ∷ row (Br ∷ []) (attr.Clear ∷ []) keyword ∷ row (Ul ∷ []) (attr.ListType ∷ []) (are kind.BulletType)
    ∷ row (Ol ∷ []) (attr.ListType ∷ []) (are kind.NumberType) ∷ row (Li ∷ []) (attr.ListType ∷ []) (are kind.ItemType)
    ∷ row (Ul ∷ Ol ∷ Dl ∷ Dir ∷ Menu ∷ []) (attr.Compact ∷ []) flag
    ∷ row (Ol ∷ []) (attr.Start ∷ []) (are (kind.Number 0 99999)) ∷ row (Li ∷ []) (attr.Value ∷ []) (are (kind.Number 0 99999))
    ∷ row (Pre ∷ []) (attr.Width ∷ []) (are (kind.Number 1 9999)) ∷ row (Font ∷ []) (attr.Size ∷ []) (are kind.FontSize)
    ∷ row (Font ∷ []) (attr.Color ∷ []) (are kind.Color) ∷ row (Font ∷ []) (attr.Face ∷ []) (are kind.Text)
    ∷ row (Form ∷ []) (attr.Method ∷ []) keyword ∷ row (Input ∷ Button ∷ []) (attr.ListType ∷ []) keyword
    ∷ row (Input ∷ OptionItem ∷ Button ∷ []) (attr.Value ∷ []) (are kind.Text)
    ∷ row (Optgroup ∷ OptionItem ∷ []) (attr.Label ∷ []) (are kind.Text)
    ∷ row (Input ∷ []) (attr.Checked ∷ []) flag
    ∷ row (Input ∷ Select ∷ Optgroup ∷ OptionItem ∷ Textarea ∷ Button ∷ []) (attr.Disabled ∷ []) flag
    ∷ row (Input ∷ Textarea ∷ []) (attr.Readonly ∷ []) flag ∷ row (Select ∷ []) (attr.Multiple ∷ []) flag
    ∷ row (OptionItem ∷ []) (attr.Selected ∷ []) flag ∷ row (Input ∷ []) (attr.Size ∷ []) (are (kind.Number 1 9999))
    ∷ row (Input ∷ []) (attr.Maxlength ∷ []) (are (kind.Number 0 99999))
    ∷ row (Select ∷ []) (attr.Size ∷ []) (are (kind.Number 1 1000))
    ∷ row (Textarea ∷ []) (attr.Rows ∷ attr.Cols ∷ []) (are (kind.Number 1 1000)) ∷ []

-- the kind in the first row that has the element and the attribute
abbrev pub kind_in : List Row → Element → Attr → Option ValueKind
kind_in [] element attr = None
kind_in (row ∷ rows) element attr =
    if is_among row.elements element && list_any (same_attr attr) row.attrs then Some (row.kind element attr) else kind_in rows element attr

-- the kind of the values of an attribute on an element
unfoldable pub kind_of : Element → Attr → Option ValueKind
kind_of element attr = kind_in table element attr

-- ---- what is declared

-- whether a doctype declares the attribute on the element
abbrev pub declares : Doctype → Element → Attr → Bool
declares doctype element attr = list_any (same_attr attr) (attributes_of doctype element)

-- one of the two doctypes declares the attribute on the element
unfoldable pub is_declared : Element → Attr → Bool
is_declared element attr = declares Strict element attr || declares Transitional element attr

-- what has a reader of its own, and the name that becomes an identifier
abbrev pub is_elsewhere : Attr → Bool
is_elsewhere a =
    list_any (same_attr a) (attr.Action ∷ attr.Cite ∷ attr.Href ∷ attr.Longdesc ∷ attr.Name ∷ attr.Src ∷ attr.Style ∷ [])

-- the words that an attribute takes on an element: none where it isn't declared
abbrev pub keywords_of : Element → Attr → List (List ℕ)
keywords_of element attr = if is_declared element attr then words_of element attr else []
