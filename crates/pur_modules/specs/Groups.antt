-- The groups of elements that content expressions are made of (XHTML 1.0, the parameter entities of the two DTDs).
use Rattle.std.specs.Prelude.{Bool, List, [], ◌∷◌, ◌++◌}
use Rattle.std.specs.List.{list_any}
use Rattle.pur_names.specs.Elements.{same_element}
use Rattle.pur_names.specs.declared.elements.Element.{Element}
use Rattle.pur_names.specs.declared.elements.Element.TheVariants.{A, Abbr, Acronym, Address, B, Bdo, Big, Blockquote, Br, Button, Caption, Center, Cite, Code, Col, Colgroup, Dd, Del, Dfn, Dir, Div, Dl, Dt, Em, Fieldset, Font, Form, H1, H2, H3, H4, H5, H6, Hr, I, Img, Input, Ins, Kbd, Label, Legend, Li, Menu, Ol, Optgroup, OptionItem, P, Pre, Q, S, Samp, Select, Small, Span, Strike, Strong, Sub, Sup, Table, Tbody, Td, Textarea, Tfoot, Th, Thead, Tr, Tt, U, Ul, Var}
use Rattle.pur_modules.specs.declared.kinds.Doctype.{Doctype}
use Rattle.pur_modules.specs.declared.kinds.Doctype.TheVariants.{Strict, Transitional}

-- whether the element is one of the list
abbrev pub is_among : List Element → Element → Bool
is_among elements element = list_any (same_element element) elements

-- more elements where the doctype is Transitional
abbrev pub in_transitional : Doctype → List Element → List Element
in_transitional Strict elements = []
in_transitional Transitional elements = elements

-- how text looks (%fontstyle; in the DTDs)
abbrev pub fontstyle : Doctype → List Element
fontstyle doctype = in_transitional doctype (U ∷ S ∷ Strike ∷ Font ∷ []) ++ Tt ∷ I ∷ B ∷ Big ∷ Small ∷ []

-- what a phrase is (%phrase;)
abbrev pub phrase : List Element
phrase = Em ∷ Strong ∷ Dfn ∷ Code ∷ Q ∷ Samp ∷ Kbd ∷ Var ∷ Cite ∷ Abbr ∷ Acronym ∷ Sub ∷ Sup ∷ []

-- the special inline elements (%special;)
abbrev pub special : List Element
special = Br ∷ Span ∷ Bdo ∷ Img ∷ []

-- marks of editing (%misc.inline;)
abbrev pub misc : List Element
misc = Ins ∷ Del ∷ []

-- the anchor
abbrev pub anchor : List Element
anchor = A ∷ []

-- the controls of a form (%inline.forms;)
abbrev pub controls : List Element
controls = Input ∷ Select ∷ Textarea ∷ Label ∷ Button ∷ []

-- the blocks (%block; with form)
abbrev pub block : Doctype → List Element
block doctype =
    P ∷ H1 ∷ H2 ∷ H3 ∷ H4 ∷ H5 ∷ H6 ∷ Div ∷ Ul ∷ Ol ∷ Dl ∷ Pre ∷ Hr ∷ Blockquote ∷ Address ∷ Table ∷ Fieldset ∷ Form ∷ []
    ++ in_transitional doctype (Center ∷ Dir ∷ Menu ∷ [])

-- the parts of lists, tables and forms
abbrev pub parts : List Element
parts = Li ∷ Dt ∷ Dd ∷ Caption ∷ Thead ∷ Tfoot ∷ Tbody ∷ Colgroup ∷ Col ∷ Tr ∷ Th ∷ Td ∷ Legend ∷ Optgroup ∷ OptionItem ∷ []

-- the inline elements (%inline; with ins and del)
abbrev pub inline : Doctype → List Element
inline doctype = fontstyle doctype ++ phrase ++ special ++ anchor ++ controls ++ misc

-- the elements of forms
abbrev pub of_forms : List Element
of_forms = Form ∷ Fieldset ∷ controls ++ Legend ∷ Optgroup ∷ OptionItem ∷ []

-- the elements of a doctype
abbrev pub elements_of : Doctype → List Element
elements_of doctype = inline doctype ++ block doctype ++ parts
