-- The names of the elements and the look-up by a name (XHTML 1.0, the DTDs).
use Rattle.std.specs.Prelude.{ℕ, Bool, List, [], ◌∷◌, Option, codes, nat_eq}
use Rattle.std.specs.List.{find}
use Rattle.std.specs.Str.{bytes_eq}
use Rattle.pur_names.specs.Places.{place_by}
use Rattle.pur_names.specs.declared.elements.Element.{Element}
use Rattle.pur_names.specs.declared.elements.Element.TheVariants.{
  A,
  Abbr,
  Acronym,
  Address,
  B,
  Bdo,
  Big,
  Blockquote,
  Br,
  Button,
  Caption,
  Center,
  Cite,
  Code,
  Col,
  Colgroup,
  Dd,
  Del,
  Dfn,
  Dir,
  Div,
  Dl,
  Dt,
  Em,
  Fieldset,
  Font,
  Form,
  H1,
  H2,
  H3,
  H4,
  H5,
  H6,
  Hr,
  I,
  Img,
  Input,
  Ins,
  Kbd,
  Label,
  Legend,
  Li,
  Menu,
  Ol,
  Optgroup,
  OptionItem,
  P,
  Pre,
  Q,
  S,
  Samp,
  Select,
  Small,
  Span,
  Strike,
  Strong,
  Sub,
  Sup,
  Table,
  Tbody,
  Td,
  Textarea,
  Tfoot,
  Th,
  Thead,
  Tr,
  Tt,
  U,
  Ul,
  Var,
}

-- the name, in lower case (XHTML 1.0, the DTDs)
abbrev pub element_name : Element → List ℕ
element_name A = codes "a"
element_name Abbr = codes "abbr"
element_name Acronym = codes "acronym"
element_name Address = codes "address"
element_name B = codes "b"
element_name Bdo = codes "bdo"
element_name Big = codes "big"
element_name Blockquote = codes "blockquote"
element_name Br = codes "br"
element_name Button = codes "button"
element_name Caption = codes "caption"
element_name Center = codes "center"
element_name Cite = codes "cite"
element_name Code = codes "code"
element_name Col = codes "col"
element_name Colgroup = codes "colgroup"
element_name Dd = codes "dd"
element_name Del = codes "del"
element_name Dfn = codes "dfn"
element_name Dir = codes "dir"
element_name Div = codes "div"
element_name Dl = codes "dl"
element_name Dt = codes "dt"
element_name Em = codes "em"
element_name Fieldset = codes "fieldset"
element_name Font = codes "font"
element_name Form = codes "form"
element_name H1 = codes "h1"
element_name H2 = codes "h2"
element_name H3 = codes "h3"
element_name H4 = codes "h4"
element_name H5 = codes "h5"
element_name H6 = codes "h6"
element_name Hr = codes "hr"
element_name I = codes "i"
element_name Img = codes "img"
element_name Input = codes "input"
element_name Ins = codes "ins"
element_name Kbd = codes "kbd"
element_name Label = codes "label"
element_name Legend = codes "legend"
element_name Li = codes "li"
element_name Menu = codes "menu"
element_name Ol = codes "ol"
element_name Optgroup = codes "optgroup"
element_name OptionItem = codes "option"
element_name P = codes "p"
element_name Pre = codes "pre"
element_name Q = codes "q"
element_name S = codes "s"
element_name Samp = codes "samp"
element_name Select = codes "select"
element_name Small = codes "small"
element_name Span = codes "span"
element_name Strike = codes "strike"
element_name Strong = codes "strong"
element_name Sub = codes "sub"
element_name Sup = codes "sup"
element_name Table = codes "table"
element_name Tbody = codes "tbody"
element_name Td = codes "td"
element_name Textarea = codes "textarea"
element_name Tfoot = codes "tfoot"
element_name Th = codes "th"
element_name Thead = codes "thead"
element_name Tr = codes "tr"
element_name Tt = codes "tt"
element_name U = codes "u"
element_name Ul = codes "ul"
element_name Var = codes "var"

-- its place in the table of names
abbrev pub element_place : List ℕ → ℕ
element_place name = place_by 176 57 7 140 156 name

-- all of them, in the order of their ranks
abbrev pub all_elements : List Element
all_elements =
    A ∷ Abbr ∷ Acronym ∷ Address ∷ B ∷ Bdo ∷ Big ∷ Blockquote ∷ Br ∷ Button ∷ Caption ∷ Center ∷ Cite ∷ Code ∷ Col ∷ Colgroup ∷ Dd ∷ Del ∷ Dfn ∷ Dir ∷ Div ∷ Dl ∷ Dt ∷ Em ∷ Fieldset ∷ Font ∷ Form ∷ H1 ∷ H2 ∷ H3 ∷ H4 ∷ H5 ∷ H6 ∷ Hr ∷ I ∷ Img ∷ Input ∷ Ins ∷ Kbd ∷ Label ∷ Legend ∷ Li ∷ Menu ∷ Ol ∷ Optgroup ∷ OptionItem ∷ P ∷ Pre ∷ Q ∷ S ∷ Samp ∷ Select ∷ Small ∷ Span ∷ Strike ∷ Strong ∷ Sub ∷ Sup ∷ Table ∷ Tbody ∷ Td ∷ Textarea ∷ Tfoot ∷ Th ∷ Thead ∷ Tr ∷ Tt ∷ U ∷ Ul ∷ Var ∷ []

-- the one that has this name, if there is one (XHTML 1.0, the DTDs)
unfoldable pub element_named : List ℕ → Option Element
element_named name = find (λ e. bytes_eq (element_name e) name) all_elements

-- the place in the list of all, counted from 0
abbrev pub element_rank : Element → ℕ
element_rank A = 0
element_rank Abbr = 1
element_rank Acronym = 2
element_rank Address = 3
element_rank B = 4
element_rank Bdo = 5
element_rank Big = 6
element_rank Blockquote = 7
element_rank Br = 8
element_rank Button = 9
element_rank Caption = 10
element_rank Center = 11
element_rank Cite = 12
element_rank Code = 13
element_rank Col = 14
element_rank Colgroup = 15
element_rank Dd = 16
element_rank Del = 17
element_rank Dfn = 18
element_rank Dir = 19
element_rank Div = 20
element_rank Dl = 21
element_rank Dt = 22
element_rank Em = 23
element_rank Fieldset = 24
element_rank Font = 25
element_rank Form = 26
element_rank H1 = 27
element_rank H2 = 28
element_rank H3 = 29
element_rank H4 = 30
element_rank H5 = 31
element_rank H6 = 32
element_rank Hr = 33
element_rank I = 34
element_rank Img = 35
element_rank Input = 36
element_rank Ins = 37
element_rank Kbd = 38
element_rank Label = 39
element_rank Legend = 40
element_rank Li = 41
element_rank Menu = 42
element_rank Ol = 43
element_rank Optgroup = 44
element_rank OptionItem = 45
element_rank P = 46
element_rank Pre = 47
element_rank Q = 48
element_rank S = 49
element_rank Samp = 50
element_rank Select = 51
element_rank Small = 52
element_rank Span = 53
element_rank Strike = 54
element_rank Strong = 55
element_rank Sub = 56
element_rank Sup = 57
element_rank Table = 58
element_rank Tbody = 59
element_rank Td = 60
element_rank Textarea = 61
element_rank Tfoot = 62
element_rank Th = 63
element_rank Thead = 64
element_rank Tr = 65
element_rank Tt = 66
element_rank U = 67
element_rank Ul = 68
element_rank Var = 69

-- whether two are the same one: a test that computes
abbrev pub same_element : Element → Element → Bool
same_element a b = nat_eq (element_rank a) (element_rank b)
