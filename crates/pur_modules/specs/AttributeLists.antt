-- Which attributes an element has (XHTML 1.0, the attribute lists of the two DTDs).
use Rattle.std.specs.Prelude.{Bool, true, List, [], ◌∷◌, ◌++◌, if◌then◌else◌, not, ◌&&◌}
use Rattle.std.specs.List.{flat_map, list_any}
use Rattle.pur_names.specs.Attributes.{same_attr}
use Rattle.pur_names.specs.declared.attributes.Attr.{Attr}
use Rattle.pur_names.specs.declared.attributes.Attr.TheVariants as attr
use Rattle.pur_names.specs.Elements.{all_elements}
use Rattle.pur_names.specs.declared.elements.Element.{Element}
use Rattle.pur_names.specs.declared.elements.Element.TheVariants.{A, Bdo, Blockquote, Br, Button, Caption, Col, Colgroup, Del, Dir, Div, Dl, Font, Form, H1, H2, H3, H4, H5, H6, Hr, Img, Input, Ins, Legend, Li, Menu, Ol, Optgroup, OptionItem, P, Pre, Q, Select, Table, Tbody, Td, Textarea, Tfoot, Th, Thead, Tr, Ul}
use Rattle.pur_modules.specs.declared.kinds.Doctype.{Doctype}
use Rattle.pur_modules.specs.declared.kinds.Doctype.TheVariants.{Strict, Transitional}
use Rattle.pur_modules.specs.Groups.{is_among, elements_of, of_forms}

-- elements, the attributes that both doctypes give them, and those that only Transitional gives them
pub record Giving : Type 0 where
  pub elements : List Element
  pub attrs : List Attr
  pub transitional : List Attr

abbrev pub give : List Element → List Attr → List Attr → Giving
give elements attrs transitional = record { elements = elements; attrs = attrs; transitional = transitional }

-- the rows of the table
abbrev pub givings : List Giving
givings =
    give (A ∷ []) (attr.Href ∷ attr.Rel ∷ []) (attr.Target ∷ [])
    ∷ give (Img ∷ []) (attr.Src ∷ attr.Alt ∷ attr.Longdesc ∷ attr.Width ∷ attr.Height ∷ [])
    (attr.Align ∷ attr.Border ∷ attr.Hspace ∷ attr.Vspace ∷ [])
    ∷ give (Blockquote ∷ Q ∷ Ins ∷ Del ∷ []) (attr.Cite ∷ []) []
    ∷ give (Table ∷ [])
    (attr.Summary ∷ attr.Width ∷ attr.Border ∷ attr.Frame ∷ attr.Rules ∷ attr.Cellspacing ∷ attr.Cellpadding ∷ [])
    (attr.Align ∷ attr.Bgcolor ∷ [])
    ∷ give (Tr ∷ Thead ∷ Tbody ∷ Tfoot ∷ Col ∷ Colgroup ∷ Td ∷ Th ∷ []) (attr.Align ∷ attr.Valign ∷ []) []
    ∷ give (Col ∷ Colgroup ∷ []) (attr.Span ∷ attr.Width ∷ []) []
    ∷ give (Td ∷ Th ∷ []) (attr.Abbr ∷ attr.Scope ∷ attr.Rowspan ∷ attr.Colspan ∷ [])
    (attr.Nowrap ∷ attr.Width ∷ attr.Height ∷ attr.Bgcolor ∷ [])
    ∷ give (Tr ∷ []) [] (attr.Bgcolor ∷ [])
    ∷ give (Caption ∷ Legend ∷ []) [] (attr.Align ∷ [])
    ∷ give (P ∷ Div ∷ H1 ∷ H2 ∷ H3 ∷ H4 ∷ H5 ∷ H6 ∷ []) [] (attr.Align ∷ [])
    ∷ give (Hr ∷ []) [] (attr.Align ∷ attr.Noshade ∷ attr.Size ∷ attr.Width ∷ [])
    ∷ give (Br ∷ []) [] (attr.Clear ∷ [])
    ∷ give (Ul ∷ []) [] (attr.ListType ∷ attr.Compact ∷ [])
    ∷ give (Ol ∷ []) [] (attr.ListType ∷ attr.Start ∷ attr.Compact ∷ [])
    ∷ give (Li ∷ []) [] (attr.ListType ∷ attr.Value ∷ [])
    ∷ give (Dl ∷ Dir ∷ Menu ∷ []) [] (attr.Compact ∷ [])
    ∷ give (Pre ∷ []) [] (attr.Width ∷ [])
    ∷ give (Font ∷ []) [] (attr.Size ∷ attr.Color ∷ attr.Face ∷ [])
    ∷ give (Form ∷ []) (attr.Action ∷ attr.Method ∷ []) []
    ∷ give (Input ∷ [])
    (attr.ListType ∷ attr.Value ∷ attr.Alt ∷ attr.Checked ∷ attr.Disabled ∷ attr.Readonly ∷ attr.Size ∷ attr.Maxlength ∷ []) []
    ∷ give (Select ∷ []) (attr.Size ∷ attr.Multiple ∷ attr.Disabled ∷ []) []
    ∷ give (Optgroup ∷ []) (attr.Label ∷ attr.Disabled ∷ []) []
    ∷ give (OptionItem ∷ []) (attr.Label ∷ attr.Value ∷ attr.Selected ∷ attr.Disabled ∷ []) []
    ∷ give (Textarea ∷ []) (attr.Rows ∷ attr.Cols ∷ attr.Disabled ∷ attr.Readonly ∷ []) []
    ∷ give (Button ∷ []) (attr.ListType ∷ attr.Value ∷ attr.Disabled ∷ []) []
    ∷ []

-- the attributes that nearly every element has (%attrs; without events); br has no language and no direction
abbrev pub common : Element → List Attr
common Br = attr.Id ∷ attr.Class ∷ attr.Style ∷ attr.Title ∷ []
common element = attr.Id ∷ attr.Class ∷ attr.Style ∷ attr.Title ∷ attr.Lang ∷ attr.XmlLang ∷ attr.Dir ∷ []

-- what a row gives under a doctype
abbrev pub given : Doctype → Giving → List Attr
given Strict row = row.attrs
given Transitional row = row.attrs ++ row.transitional

-- what a row gives an element
abbrev pub given_to : Doctype → Element → Giving → List Attr
given_to doctype element row = if is_among row.elements element then given doctype row else []

-- the attributes of an element; a doctype declares none on an element that it hasn't
unfoldable pub attributes_of : Doctype → Element → List Attr
attributes_of doctype element =
    if is_among (elements_of doctype) element then common element ++ flat_map (given_to doctype element) givings else []

-- the attributes that an element must have (#REQUIRED)
abbrev pub required_of : Element → List Attr
required_of Img = attr.Src ∷ attr.Alt ∷ []
required_of Bdo = attr.Dir ∷ []
required_of Form = attr.Action ∷ []
required_of Textarea = attr.Rows ∷ attr.Cols ∷ []
required_of Optgroup = attr.Label ∷ []
required_of element = []

-- whether no attribute stands twice in the list
abbrev pub is_without_repeats : List Attr → Bool
is_without_repeats [] = true
is_without_repeats (first ∷ more) = not (list_any (same_attr first) more) && is_without_repeats more

-- whether Transitional declares the attribute on an element that is none of forms
unfoldable pub is_outside_forms : Attr → Bool
is_outside_forms attr =
    list_any (λ element. not (is_among of_forms element) && list_any (same_attr attr) (attributes_of Transitional element)) all_elements

-- what forms alone have, and the name, which no element has
abbrev pub is_of_none_else : Attr → Bool
is_of_none_else a =
    list_any (same_attr a)
    (attr.Action ∷ attr.Checked ∷ attr.Cols ∷ attr.Disabled ∷ attr.Label ∷ attr.Maxlength ∷ attr.Method ∷ attr.Multiple ∷ attr.Name
    ∷ attr.Readonly ∷ attr.Rows ∷ attr.Selected ∷ [])
