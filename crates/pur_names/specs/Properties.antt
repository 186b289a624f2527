-- The names of the style properties and the look-up by a name (CSS 2.1, the property index).
use Rattle.std.specs.Prelude.{ℕ, Bool, List, [], ◌∷◌, Option, codes, nat_eq}
use Rattle.std.specs.List.{find}
use Rattle.std.specs.Str.{bytes_eq}
use Rattle.pur_names.specs.Places.{place_by}
use Rattle.pur_names.specs.declared.properties.StyleProp.{StyleProp}
use Rattle.pur_names.specs.declared.properties.StyleProp.TheVariants.{
  BackgroundAttachment,
  BackgroundColor,
  BackgroundImage,
  BackgroundRepeat,
  Border,
  BorderBottomColor,
  BorderBottomStyle,
  BorderBottomWidth,
  BorderCollapse,
  BorderColor,
  BorderLeftColor,
  BorderLeftStyle,
  BorderLeftWidth,
  BorderRightColor,
  BorderRightStyle,
  BorderRightWidth,
  BorderStyle,
  BorderTopColor,
  BorderTopStyle,
  BorderTopWidth,
  BorderWidth,
  CaptionSide,
  Clear,
  Color,
  Float,
  FontFamily,
  FontSize,
  FontStyle,
  FontVariant,
  FontWeight,
  Height,
  LetterSpacing,
  LineHeight,
  ListStyleImage,
  ListStylePosition,
  ListStyleType,
  Margin,
  MarginBottom,
  MarginLeft,
  MarginRight,
  MarginTop,
  Padding,
  PaddingBottom,
  PaddingLeft,
  PaddingRight,
  PaddingTop,
  TableLayout,
  TextAlign,
  TextDecoration,
  TextIndent,
  TextTransform,
  VerticalAlign,
  WhiteSpace,
  Width,
  WordSpacing,
}

-- the name, in lower case (CSS 2.1, the property index)
abbrev pub prop_name : StyleProp → List ℕ
prop_name BackgroundAttachment = codes "background-attachment"
prop_name BackgroundColor = codes "background-color"
prop_name BackgroundImage = codes "background-image"
prop_name BackgroundRepeat = codes "background-repeat"
prop_name Border = codes "border"
prop_name BorderBottomColor = codes "border-bottom-color"
prop_name BorderBottomStyle = codes "border-bottom-style"
prop_name BorderBottomWidth = codes "border-bottom-width"
prop_name BorderCollapse = codes "border-collapse"
prop_name BorderColor = codes "border-color"
prop_name BorderLeftColor = codes "border-left-color"
prop_name BorderLeftStyle = codes "border-left-style"
prop_name BorderLeftWidth = codes "border-left-width"
prop_name BorderRightColor = codes "border-right-color"
prop_name BorderRightStyle = codes "border-right-style"
prop_name BorderRightWidth = codes "border-right-width"
prop_name BorderStyle = codes "border-style"
prop_name BorderTopColor = codes "border-top-color"
prop_name BorderTopStyle = codes "border-top-style"
prop_name BorderTopWidth = codes "border-top-width"
prop_name BorderWidth = codes "border-width"
prop_name CaptionSide = codes "caption-side"
prop_name Clear = codes "clear"
prop_name Color = codes "color"
prop_name Float = codes "float"
prop_name FontFamily = codes "font-family"
prop_name FontSize = codes "font-size"
prop_name FontStyle = codes "font-style"
prop_name FontVariant = codes "font-variant"
prop_name FontWeight = codes "font-weight"
prop_name Height = codes "height"
prop_name LetterSpacing = codes "letter-spacing"
prop_name LineHeight = codes "line-height"
prop_name ListStyleImage = codes "list-style-image"
prop_name ListStylePosition = codes "list-style-position"
prop_name ListStyleType = codes "list-style-type"
prop_name Margin = codes "margin"
prop_name MarginBottom = codes "margin-bottom"
prop_name MarginLeft = codes "margin-left"
prop_name MarginRight = codes "margin-right"
prop_name MarginTop = codes "margin-top"
prop_name Padding = codes "padding"
prop_name PaddingBottom = codes "padding-bottom"
prop_name PaddingLeft = codes "padding-left"
prop_name PaddingRight = codes "padding-right"
prop_name PaddingTop = codes "padding-top"
prop_name TableLayout = codes "table-layout"
prop_name TextAlign = codes "text-align"
prop_name TextDecoration = codes "text-decoration"
prop_name TextIndent = codes "text-indent"
prop_name TextTransform = codes "text-transform"
prop_name VerticalAlign = codes "vertical-align"
prop_name WhiteSpace = codes "white-space"
prop_name Width = codes "width"
prop_name WordSpacing = codes "word-spacing"

-- its place in the table of names
abbrev pub prop_place : List ℕ → ℕ
prop_place name = place_by 128 27 14 5 23 name

-- all of them, in the order of their ranks
abbrev pub all_props : List StyleProp
all_props =
    BackgroundAttachment ∷ BackgroundColor ∷ BackgroundImage ∷ BackgroundRepeat ∷ Border ∷
    BorderBottomColor ∷ BorderBottomStyle ∷ BorderBottomWidth ∷ BorderCollapse ∷ BorderColor ∷
    BorderLeftColor ∷ BorderLeftStyle ∷ BorderLeftWidth ∷ BorderRightColor ∷ BorderRightStyle ∷
    BorderRightWidth ∷ BorderStyle ∷ BorderTopColor ∷ BorderTopStyle ∷ BorderTopWidth ∷
    BorderWidth ∷ CaptionSide ∷ Clear ∷ Color ∷ Float ∷ FontFamily ∷ FontSize ∷ FontStyle ∷
    FontVariant ∷ FontWeight ∷ Height ∷ LetterSpacing ∷ LineHeight ∷ ListStyleImage ∷
    ListStylePosition ∷ ListStyleType ∷ Margin ∷ MarginBottom ∷ MarginLeft ∷ MarginRight ∷
    MarginTop ∷ Padding ∷ PaddingBottom ∷ PaddingLeft ∷ PaddingRight ∷ PaddingTop ∷ TableLayout ∷
    TextAlign ∷ TextDecoration ∷ TextIndent ∷ TextTransform ∷ VerticalAlign ∷ WhiteSpace ∷ Width ∷
    WordSpacing ∷ []

-- the one that has this name, if there is one (CSS 2.1, the property index)
unfoldable pub prop_named : List ℕ → Option StyleProp
prop_named name = find (λ p. bytes_eq (prop_name p) name) all_props

-- the place in the list of all, counted from 0
abbrev pub prop_rank : StyleProp → ℕ
prop_rank BackgroundAttachment = 0
prop_rank BackgroundColor = 1
prop_rank BackgroundImage = 2
prop_rank BackgroundRepeat = 3
prop_rank Border = 4
prop_rank BorderBottomColor = 5
prop_rank BorderBottomStyle = 6
prop_rank BorderBottomWidth = 7
prop_rank BorderCollapse = 8
prop_rank BorderColor = 9
prop_rank BorderLeftColor = 10
prop_rank BorderLeftStyle = 11
prop_rank BorderLeftWidth = 12
prop_rank BorderRightColor = 13
prop_rank BorderRightStyle = 14
prop_rank BorderRightWidth = 15
prop_rank BorderStyle = 16
prop_rank BorderTopColor = 17
prop_rank BorderTopStyle = 18
prop_rank BorderTopWidth = 19
prop_rank BorderWidth = 20
prop_rank CaptionSide = 21
prop_rank Clear = 22
prop_rank Color = 23
prop_rank Float = 24
prop_rank FontFamily = 25
prop_rank FontSize = 26
prop_rank FontStyle = 27
prop_rank FontVariant = 28
prop_rank FontWeight = 29
prop_rank Height = 30
prop_rank LetterSpacing = 31
prop_rank LineHeight = 32
prop_rank ListStyleImage = 33
prop_rank ListStylePosition = 34
prop_rank ListStyleType = 35
prop_rank Margin = 36
prop_rank MarginBottom = 37
prop_rank MarginLeft = 38
prop_rank MarginRight = 39
prop_rank MarginTop = 40
prop_rank Padding = 41
prop_rank PaddingBottom = 42
prop_rank PaddingLeft = 43
prop_rank PaddingRight = 44
prop_rank PaddingTop = 45
prop_rank TableLayout = 46
prop_rank TextAlign = 47
prop_rank TextDecoration = 48
prop_rank TextIndent = 49
prop_rank TextTransform = 50
prop_rank VerticalAlign = 51
prop_rank WhiteSpace = 52
prop_rank Width = 53
prop_rank WordSpacing = 54

-- whether two are the same one: a test that computes
abbrev pub same_prop : StyleProp → StyleProp → Bool
same_prop a b = nat_eq (prop_rank a) (prop_rank b)
