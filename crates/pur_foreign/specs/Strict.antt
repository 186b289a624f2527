-- What stands in Strict for an element that Transitional alone has, and the style that its attributes become (the tag
-- transforms of HTML Purifier; CSS 2.1, sections 14.1, 15.3, 15.7, 16.2 and 16.3.1, for the properties).
use Rattle.std.specs.Prelude.{ℕ, List, [], ◌++◌, Option, Some, None, if◌then◌else◌, codes}
use Rattle.std.specs.Str.{bytes_eq}
use Rattle.pur_names.specs.declared.elements.Element.{Element}
use Rattle.pur_names.specs.declared.elements.Element.TheVariants.{Center, Dir, Div, Font, Menu, S, Span, Strike, U, Ul}
use Rattle.pur_text.specs.Trimming.{trimmed}
use Rattle.pur_attrlist.specs.Attributes.{Attribute, value_of, without}
use Rattle.pur_attrlist.specs.Styles.{with_style}

-- the element that stands in Strict for another
abbrev pub strict_element : Element → Element
strict_element Center = Div
strict_element Font = Span
strict_element U = Span
strict_element S = Span
strict_element Strike = Span
strict_element Dir = Ul
strict_element Menu = Ul
strict_element element = element

-- the size of text that a `size` of `font` names (HTML 4.01, section 15.2.2; CSS 2.1, section 15.7)
abbrev pub size_named : List ℕ → Option (List ℕ)
size_named text =
    if bytes_eq text (codes "1") then Some (codes "xx-small") else
    if bytes_eq text (codes "2") then Some (codes "small") else
    if bytes_eq text (codes "3") then Some (codes "medium") else
    if bytes_eq text (codes "4") then Some (codes "large") else
    if bytes_eq text (codes "5") then Some (codes "x-large") else
    if bytes_eq text (codes "6") then Some (codes "xx-large") else
    if bytes_eq text (codes "7") then Some (codes "300%") else
    if bytes_eq text (codes "+1") then Some (codes "larger") else
    if bytes_eq text (codes "-1") then Some (codes "smaller") else None

-- the size of text that the value of an attribute `size` names
abbrev pub size_of : Option (List ℕ) → Option (List ℕ)
size_of None = None
size_of (Some value) = size_named (trimmed value)

-- a declaration of a style, which stands only where there is a value
abbrev pub declaration : List ℕ → Option (List ℕ) → List ℕ
declaration property None = []
declaration property (Some value) = property ++ codes ":" ++ value ++ codes ";"

-- the style of a `font`
abbrev pub font_style : List Attribute → List ℕ
font_style attrs =
    declaration (codes "color") (value_of attrs (codes "color"))
    ++ declaration (codes "font-family") (value_of attrs (codes "face"))
    ++ declaration (codes "font-size") (size_of (value_of attrs (codes "size")))

-- the style that Strict has in place of an element and its attributes
abbrev pub style_text : Element → List Attribute → List ℕ
style_text Center attrs = codes "text-align:center;"
style_text U attrs = codes "text-decoration:underline;"
style_text S attrs = codes "text-decoration:line-through;"
style_text Strike attrs = codes "text-decoration:line-through;"
style_text Font attrs = font_style attrs
style_text element attrs = []

-- the attributes that stay beside that style
abbrev pub attributes_left : Element → List Attribute → List Attribute
attributes_left Font attrs = without (without (without attrs (codes "color")) (codes "face")) (codes "size")
attributes_left element attrs = attrs

-- the attributes that Strict has in place of those of an element
abbrev pub strict_attributes : Element → List Attribute → List Attribute
strict_attributes element attrs = with_style (style_text element attrs) (attributes_left element attrs)
