-- The kinds by the attribute's name, for the proof that the code follows the table.
use Rattle.std.specs.Prelude.{Option, Some, None, if◌then◌else◌}
use Rattle.pur_names.specs.declared.attributes.Attr.{Attr}
use Rattle.pur_names.specs.declared.attributes.Attr.TheVariants as attr
use Rattle.pur_names.specs.declared.elements.Element.{Element}
use Rattle.pur_names.specs.declared.elements.Element.TheVariants.{Button, Col, Colgroup, Font, Input, Li, Ol, Pre, Select, Ul}
use Rattle.pur_values.specs.Kinds.{is_declared}
use Rattle.pur_values.specs.declared.kinds.ValueKind.{ValueKind}
use Rattle.pur_values.specs.declared.kinds.ValueKind.TheVariants as kind

-- the width of a column, of preformatted text in characters, and of anything else
abbrev pub width_kind : Element → ValueKind
width_kind Col = kind.MultiLength
width_kind Colgroup = kind.MultiLength
width_kind Pre = kind.Number 1 9999
width_kind element = kind.Length

-- the size of a font, of a field in characters, of a list in rows, and of a rule
abbrev pub size_kind : Element → ValueKind
size_kind Font = kind.FontSize
size_kind Input = kind.Number 1 9999
size_kind Select = kind.Number 1 1000
size_kind element = kind.Pixels

-- the type of a list, of a control, and of an item in either sort of list
abbrev pub type_kind : Element → ValueKind
type_kind Ul = kind.BulletType
type_kind Ol = kind.NumberType
type_kind Input = kind.Keyword Input attr.ListType
type_kind Button = kind.Keyword Button attr.ListType
type_kind element = kind.ItemType

-- the number of an item, and the text that a control sends
abbrev pub value_kind : Element → ValueKind
value_kind Li = kind.Number 0 99999
value_kind element = kind.Text

-- the kind of an attribute that is declared on the element; none for what has a reader of its own, as URIs and styles, and
-- for a name that becomes an identifier
abbrev pub kind_by_name : Element → Attr → Option ValueKind
kind_by_name element attr.Abbr = Some kind.Text
kind_by_name element attr.Action = None
kind_by_name element attr.Align = Some (kind.Keyword element attr.Align)
kind_by_name element attr.Alt = Some kind.Text
kind_by_name element attr.Bgcolor = Some kind.Color
kind_by_name element attr.Border = Some kind.Pixels
kind_by_name element attr.Cellpadding = Some kind.Length
kind_by_name element attr.Cellspacing = Some kind.Length
kind_by_name element attr.Checked = Some (kind.Flag attr.Checked)
kind_by_name element attr.Cite = None
kind_by_name element attr.Class = Some kind.Class
kind_by_name element attr.Clear = Some (kind.Keyword element attr.Clear)
kind_by_name element attr.Color = Some kind.Color
kind_by_name element attr.Cols = Some (kind.Number 1 1000)
kind_by_name element attr.Colspan = Some (kind.Number 1 1000)
kind_by_name element attr.Compact = Some (kind.Flag attr.Compact)
kind_by_name element attr.Dir = Some (kind.Keyword element attr.Dir)
kind_by_name element attr.Disabled = Some (kind.Flag attr.Disabled)
kind_by_name element attr.Face = Some kind.Text
kind_by_name element attr.Frame = Some (kind.Keyword element attr.Frame)
kind_by_name element attr.Height = Some kind.Length
kind_by_name element attr.Href = None
kind_by_name element attr.Hspace = Some kind.Pixels
kind_by_name element attr.Id = Some kind.Id
kind_by_name element attr.Label = Some kind.Text
kind_by_name element attr.Lang = Some kind.Lang
kind_by_name element attr.Longdesc = None
kind_by_name element attr.Maxlength = Some (kind.Number 0 99999)
kind_by_name element attr.Method = Some (kind.Keyword element attr.Method)
kind_by_name element attr.Multiple = Some (kind.Flag attr.Multiple)
kind_by_name element attr.Name = None
kind_by_name element attr.Noshade = Some (kind.Flag attr.Noshade)
kind_by_name element attr.Nowrap = Some (kind.Flag attr.Nowrap)
kind_by_name element attr.Readonly = Some (kind.Flag attr.Readonly)
kind_by_name element attr.Rel = Some kind.Rel
kind_by_name element attr.Rows = Some (kind.Number 1 1000)
kind_by_name element attr.Rowspan = Some (kind.Number 1 1000)
kind_by_name element attr.Rules = Some (kind.Keyword element attr.Rules)
kind_by_name element attr.Scope = Some (kind.Keyword element attr.Scope)
kind_by_name element attr.Selected = Some (kind.Flag attr.Selected)
kind_by_name element attr.Size = Some (size_kind element)
kind_by_name element attr.Span = Some (kind.Number 1 1000)
kind_by_name element attr.Src = None
kind_by_name element attr.Start = Some (kind.Number 0 99999)
kind_by_name element attr.Style = None
kind_by_name element attr.Summary = Some kind.Text
kind_by_name element attr.Target = Some (kind.Keyword element attr.Target)
kind_by_name element attr.Title = Some kind.Text
kind_by_name element attr.ListType = Some (type_kind element)
kind_by_name element attr.Valign = Some (kind.Keyword element attr.Valign)
kind_by_name element attr.Value = Some (value_kind element)
kind_by_name element attr.Vspace = Some kind.Pixels
kind_by_name element attr.Width = Some (width_kind element)
kind_by_name element attr.XmlLang = Some kind.Lang

-- where one of the doctypes declares it there
abbrev pub declared_kind : Element → Attr → Option ValueKind
declared_kind element attr = if is_declared element attr then kind_by_name element attr else None
