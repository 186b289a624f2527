-- The form of each property's values (CSS 2.1, the property index).
use Rattle.std.specs.Prelude.{true, false}
use Rattle.pur_names.specs.declared.properties.StyleProp.{StyleProp}
use Rattle.pur_names.specs.declared.properties.StyleProp.TheVariants as prop
use Rattle.pur_cssprops.specs.Forms.{width, style, color}
use Rattle.pur_cssprops.specs.declared.forms.ValueForm.{ValueForm}
use Rattle.pur_cssprops.specs.declared.forms.ValueForm.TheVariants.{Word, Image, Families, Words, Border, Decoration}
use Rattle.pur_cssprops.specs.declared.forms.WordForm.{WordForm}
use Rattle.pur_cssprops.specs.declared.forms.WordForm.TheVariants as word
use Rattle.pur_cssprops.specs.declared.keywords.Keywords.{Keywords}
use Rattle.pur_cssprops.specs.declared.keywords.Keywords.TheVariants as set

-- one of a set of words
abbrev pub one_of : Keywords → ValueForm
one_of keywords = Word (word.Keyword keywords)

-- a colour, or `transparent` (CSS 2.1, sections 8.5.2 and 14.2.1)
abbrev pub color_or_transparent : WordForm
color_or_transparent = word.Color true

-- a length or a percentage that isn't below zero, or one of a set of words
abbrev pub size : Keywords → WordForm
size keywords = word.Length false true keywords

-- a length or a percentage, or one of a set of words
abbrev pub shift : Keywords → WordForm
shift keywords = word.Length true true keywords

-- a length, or `normal` (CSS 2.1, section 16.4)
abbrev pub spacing : WordForm
spacing = word.Length true false set.Normal

-- the form of each
abbrev pub form_of : StyleProp → ValueForm
form_of prop.BackgroundAttachment = one_of set.Attachment
form_of prop.BackgroundColor = Word color_or_transparent
form_of prop.BackgroundImage = Image
form_of prop.BackgroundRepeat = one_of set.Repeat
form_of prop.Border = Border
form_of prop.BorderBottomColor = Word color_or_transparent
form_of prop.BorderBottomStyle = Word style
form_of prop.BorderBottomWidth = Word width
form_of prop.BorderCollapse = one_of set.Collapse
form_of prop.BorderColor = Words color_or_transparent
form_of prop.BorderLeftColor = Word color_or_transparent
form_of prop.BorderLeftStyle = Word style
form_of prop.BorderLeftWidth = Word width
form_of prop.BorderRightColor = Word color_or_transparent
form_of prop.BorderRightStyle = Word style
form_of prop.BorderRightWidth = Word width
form_of prop.BorderStyle = Words style
form_of prop.BorderTopColor = Word color_or_transparent
form_of prop.BorderTopStyle = Word style
form_of prop.BorderTopWidth = Word width
form_of prop.BorderWidth = Words width
form_of prop.CaptionSide = one_of set.CaptionSide
form_of prop.Clear = one_of set.Clear
form_of prop.Color = Word color
form_of prop.Float = one_of set.Float
form_of prop.FontFamily = Families
form_of prop.FontSize = Word (size set.FontSize)
form_of prop.FontStyle = one_of set.FontStyle
form_of prop.FontVariant = one_of set.FontVariant
form_of prop.FontWeight = one_of set.FontWeight
form_of prop.Height = Word (size set.Auto)
form_of prop.LetterSpacing = Word spacing
form_of prop.LineHeight = Word word.LineHeight
form_of prop.ListStyleImage = Image
form_of prop.ListStylePosition = one_of set.ListPosition
form_of prop.ListStyleType = one_of set.ListType
form_of prop.Margin = Words (shift set.Auto)
form_of prop.MarginBottom = Word (shift set.Auto)
form_of prop.MarginLeft = Word (shift set.Auto)
form_of prop.MarginRight = Word (shift set.Auto)
form_of prop.MarginTop = Word (shift set.Auto)
form_of prop.Padding = Words (size set.Empty)
form_of prop.PaddingBottom = Word (size set.Empty)
form_of prop.PaddingLeft = Word (size set.Empty)
form_of prop.PaddingRight = Word (size set.Empty)
form_of prop.PaddingTop = Word (size set.Empty)
form_of prop.TableLayout = one_of set.TableLayout
form_of prop.TextAlign = one_of set.TextAlign
form_of prop.TextDecoration = Decoration
form_of prop.TextIndent = Word (shift set.Empty)
form_of prop.TextTransform = one_of set.TextTransform
form_of prop.VerticalAlign = Word (shift set.VerticalAlign)
form_of prop.WhiteSpace = one_of set.WhiteSpace
form_of prop.Width = Word (size set.Auto)
form_of prop.WordSpacing = Word spacing
