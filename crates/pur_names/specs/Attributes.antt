-- The names of the attributes and the look-up by a name (XHTML 1.0, the attribute lists of the DTDs).
use Rattle.std.specs.Prelude.{ℕ, Bool, List, [], ◌∷◌, Option, codes, nat_eq}
use Rattle.std.specs.List.{find}
use Rattle.std.specs.Str.{bytes_eq}
use Rattle.pur_names.specs.Places.{place_by}
use Rattle.pur_names.specs.declared.attributes.Attr.{Attr}
use Rattle.pur_names.specs.declared.attributes.Attr.TheVariants.{
  Abbr,
  Action,
  Align,
  Alt,
  Bgcolor,
  Border,
  Cellpadding,
  Cellspacing,
  Checked,
  Cite,
  Class,
  Clear,
  Color,
  Cols,
  Colspan,
  Compact,
  Dir,
  Disabled,
  Face,
  Frame,
  Height,
  Href,
  Hspace,
  Id,
  Label,
  Lang,
  Longdesc,
  Maxlength,
  Method,
  Multiple,
  Name,
  Noshade,
  Nowrap,
  Readonly,
  Rel,
  Rows,
  Rowspan,
  Rules,
  Scope,
  Selected,
  Size,
  Span,
  Src,
  Start,
  Style,
  Summary,
  Target,
  Title,
  ListType,
  Valign,
  Value,
  Vspace,
  Width,
  XmlLang,
}

-- the name, in lower case (XHTML 1.0, the attribute lists of the DTDs)
abbrev pub attr_name : Attr → List ℕ
attr_name Abbr = codes "abbr"
attr_name Action = codes "action"
attr_name Align = codes "align"
attr_name Alt = codes "alt"
attr_name Bgcolor = codes "bgcolor"
attr_name Border = codes "border"
attr_name Cellpadding = codes "cellpadding"
attr_name Cellspacing = codes "cellspacing"
attr_name Checked = codes "checked"
attr_name Cite = codes "cite"
attr_name Class = codes "class"
attr_name Clear = codes "clear"
attr_name Color = codes "color"
attr_name Cols = codes "cols"
attr_name Colspan = codes "colspan"
attr_name Compact = codes "compact"
attr_name Dir = codes "dir"
attr_name Disabled = codes "disabled"
attr_name Face = codes "face"
attr_name Frame = codes "frame"
attr_name Height = codes "height"
attr_name Href = codes "href"
attr_name Hspace = codes "hspace"
attr_name Id = codes "id"
attr_name Label = codes "label"
attr_name Lang = codes "lang"
attr_name Longdesc = codes "longdesc"
attr_name Maxlength = codes "maxlength"
attr_name Method = codes "method"
attr_name Multiple = codes "multiple"
attr_name Name = codes "name"
attr_name Noshade = codes "noshade"
attr_name Nowrap = codes "nowrap"
attr_name Readonly = codes "readonly"
attr_name Rel = codes "rel"
attr_name Rows = codes "rows"
attr_name Rowspan = codes "rowspan"
attr_name Rules = codes "rules"
attr_name Scope = codes "scope"
attr_name Selected = codes "selected"
attr_name Size = codes "size"
attr_name Span = codes "span"
attr_name Src = codes "src"
attr_name Start = codes "start"
attr_name Style = codes "style"
attr_name Summary = codes "summary"
attr_name Target = codes "target"
attr_name Title = codes "title"
attr_name ListType = codes "type"
attr_name Valign = codes "valign"
attr_name Value = codes "value"
attr_name Vspace = codes "vspace"
attr_name Width = codes "width"
attr_name XmlLang = codes "xml:lang"

-- its place in the table of names
abbrev pub attr_place : List ℕ → ℕ
attr_place name = place_by 128 4 13 59 68 name

-- all of them, in the order of their ranks
abbrev pub all_attrs : List Attr
all_attrs =
    Abbr ∷ Action ∷ Align ∷ Alt ∷ Bgcolor ∷ Border ∷ Cellpadding ∷ Cellspacing ∷ Checked ∷ Cite ∷ Class ∷ Clear ∷ Color ∷ Cols ∷ Colspan ∷ Compact ∷ Dir ∷ Disabled ∷ Face ∷ Frame ∷ Height ∷ Href ∷ Hspace ∷ Id ∷ Label ∷ Lang ∷ Longdesc ∷ Maxlength ∷ Method ∷ Multiple ∷ Name ∷ Noshade ∷ Nowrap ∷ Readonly ∷ Rel ∷ Rows ∷ Rowspan ∷ Rules ∷ Scope ∷ Selected ∷ Size ∷ Span ∷ Src ∷ Start ∷ Style ∷ Summary ∷ Target ∷ Title ∷ ListType ∷ Valign ∷ Value ∷ Vspace ∷ Width ∷ XmlLang ∷ []

-- the one that has this name, if there is one (XHTML 1.0, the attribute lists of the DTDs)
unfoldable pub attr_named : List ℕ → Option Attr
attr_named name = find (λ a. bytes_eq (attr_name a) name) all_attrs

-- the place in the list of all, counted from 0
abbrev pub attr_rank : Attr → ℕ
attr_rank Abbr = 0
attr_rank Action = 1
attr_rank Align = 2
attr_rank Alt = 3
attr_rank Bgcolor = 4
attr_rank Border = 5
attr_rank Cellpadding = 6
attr_rank Cellspacing = 7
attr_rank Checked = 8
attr_rank Cite = 9
attr_rank Class = 10
attr_rank Clear = 11
attr_rank Color = 12
attr_rank Cols = 13
attr_rank Colspan = 14
attr_rank Compact = 15
attr_rank Dir = 16
attr_rank Disabled = 17
attr_rank Face = 18
attr_rank Frame = 19
attr_rank Height = 20
attr_rank Href = 21
attr_rank Hspace = 22
attr_rank Id = 23
attr_rank Label = 24
attr_rank Lang = 25
attr_rank Longdesc = 26
attr_rank Maxlength = 27
attr_rank Method = 28
attr_rank Multiple = 29
attr_rank Name = 30
attr_rank Noshade = 31
attr_rank Nowrap = 32
attr_rank Readonly = 33
attr_rank Rel = 34
attr_rank Rows = 35
attr_rank Rowspan = 36
attr_rank Rules = 37
attr_rank Scope = 38
attr_rank Selected = 39
attr_rank Size = 40
attr_rank Span = 41
attr_rank Src = 42
attr_rank Start = 43
attr_rank Style = 44
attr_rank Summary = 45
attr_rank Target = 46
attr_rank Title = 47
attr_rank ListType = 48
attr_rank Valign = 49
attr_rank Value = 50
attr_rank Vspace = 51
attr_rank Width = 52
attr_rank XmlLang = 53

-- whether two are the same one: a test that computes
abbrev pub same_attr : Attr → Attr → Bool
same_attr a b = nat_eq (attr_rank a) (attr_rank b)
