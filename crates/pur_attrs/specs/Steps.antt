-- What becomes of the attributes of one element (HTML Purifier's fourth strategy).
use Rattle.std.specs.Prelude.{ℕ, ◌==◌, not, List, [], ◌∷◌, ◌++◌, map, reverse, Option, None, Some, if◌then◌else◌, codes, encode_utf8_all}
use Rattle.std.specs.List.{filter_map, take_while}
use Rattle.std.specs.Option.{option_and_then, option_map, option_map_or, option_or}
use Rattle.pur_names.specs.Attributes.{attr_named}
use Rattle.pur_names.specs.declared.elements.Element.{Element}
use Rattle.pur_names.specs.declared.elements.Element.TheVariants.{A, Bdo, Div, Form, H1, H2, H3, H4, H5, H6, Img, Optgroup, P, Table, Td, Textarea, Th, Tr}
use Rattle.pur_modules.specs.Groups.{is_among}
use Rattle.pur_modules.specs.declared.kinds.Doctype.{Doctype}
use Rattle.pur_modules.specs.declared.kinds.Doctype.TheVariants.{Strict, Transitional}
use Rattle.pur_settings.specs.Rules.{Rules, permits_attribute}
use Rattle.pur_attrlist.specs.Attributes.{Attribute, is_same_text, has_name, value_of, with_value, with_new, without}
use Rattle.pur_attrlist.specs.Styles.{with_style}
use Rattle.pur_uri.specs.Uris.{uri_of}
use Rattle.pur_uripolicy.specs.HostRules.{PlainHostRule}
use Rattle.pur_validity.specs.Attributes.{value_on}

-- ---- the name of an anchor or a picture (XHTML 1.0, section 4.10)

-- a `name` as an `id`
abbrev pub name_as_id : Attribute → Attribute
name_as_id pair = if is_same_text (codes "name") pair.0 then (codes "id", pair.1) else pair

-- on `a` and `img` a `name` becomes the `id` in its place; where an `id` is there, it goes
abbrev pub with_name_as_id : Element → List Attribute → List Attribute
with_name_as_id element attrs =
    if is_among (A ∷ Img ∷ []) element
    then (if has_name attrs (codes "id") then without attrs (codes "name") else map name_as_id attrs) else attrs

-- ---- the style that Strict has for attributes (CSS 2.1, sections 14.2.1, 16.2 and 16.6)

-- a declaration of what an attribute says, where the element is one of these and has the attribute
abbrev pub styled_by : List Element → Element → (List ℕ → List ℕ) → Option (List ℕ) → List ℕ
styled_by elements element declared found = if is_among elements element then option_map_or declared found [] else []

-- the elements whose text `align` sets, those behind which `bgcolor` puts a colour, and those whose lines `nowrap` keeps whole
abbrev pub aligned : List Element
aligned = P ∷ Div ∷ H1 ∷ H2 ∷ H3 ∷ H4 ∷ H5 ∷ H6 ∷ []

abbrev pub colored : List Element
colored = Table ∷ Tr ∷ Td ∷ Th ∷ []

abbrev pub cells : List Element
cells = Td ∷ Th ∷ []

-- where text stands, what is behind it, and that its lines aren't broken, in this order
abbrev pub style_for : Element → List Attribute → List ℕ
style_for element attrs =
    styled_by aligned element (λ value. codes "text-align:" ++ value ++ codes ";") (value_of attrs (codes "align"))
    ++ styled_by colored element (λ value. codes "background-color:" ++ value ++ codes ";") (value_of attrs (codes "bgcolor"))
    ++ styled_by cells element (λ value. codes "white-space:nowrap;") (value_of attrs (codes "nowrap"))

-- the attributes with the style that Strict has for some of them
abbrev pub with_style_in : Doctype → Element → List Attribute → List Attribute
with_style_in Strict element attrs = with_style (style_for element attrs) attrs
with_style_in Transitional element attrs = attrs

-- ---- what is kept

-- an attribute with what its value is read as; none, where it isn't declared on the element, isn't permitted, or isn't read
abbrev pub kept_attribute : Rules → PlainHostRule → Element → Attribute → Option Attribute
kept_attribute rules rule element pair =
    option_and_then
    (λ attr. if permits_attribute rules element attr then option_map (λ value. (pair.0, value)) (value_on rules rule element attr pair.1) else None)
    (attr_named pair.0)

-- the attributes that are kept
abbrev pub kept_attributes : Rules → PlainHostRule → Element → List Attribute → List Attribute
kept_attributes rules rule element attrs =
    filter_map (kept_attribute rules rule element) (with_style_in rules.doctype element (with_name_as_id element attrs))

-- ---- what is put in

-- the language that attributes tell: that of `xml:lang`, and else that of `lang`
abbrev pub language_told : List Attribute → Option (List ℕ)
language_told attrs = option_or (value_of attrs (codes "xml:lang")) (value_of attrs (codes "lang"))

-- where a language is told, `lang` and `xml:lang` both tell it; what is missing stands at the end (XHTML 1.0, section C.7)
abbrev pub with_language : Option (List ℕ) → List Attribute → List Attribute
with_language None attrs = attrs
with_language (Some language) attrs = with_value (with_value attrs (codes "lang") language) (codes "xml:lang") language

-- the last segment of a path: what stands behind its last `/` (RFC 3986, section 3.3)
abbrev pub last_segment : List ℕ → List ℕ
last_segment path = reverse (take_while (λ c. not (c == 0x2F)) (reverse path))

-- what a picture's source is called: the last segment of the path of the URI that `src` writes
abbrev pub source_name : List Attribute → List ℕ
source_name attrs =
    option_map_or (λ uri. last_segment uri.path) (option_and_then (λ value. uri_of (encode_utf8_all value)) (value_of attrs (codes "src"))) []

-- what an element must have is put in where it is missing: a `bdo` goes from left to right, an `img` has the name of its source in
-- its place, a `form` is sent to the page itself, a group of options has no label to show, and a field of text has four rows of
-- forty columns (HTML 4.01, sections 8.2.4, 13.8, 17.3, 17.6 and 17.7; the values for forms are this filter's own)
abbrev pub with_required : Element → List Attribute → List Attribute
with_required Bdo attrs = with_new attrs (codes "dir") (codes "ltr")
with_required Img attrs = with_new attrs (codes "alt") (source_name attrs)
with_required Form attrs = with_new attrs (codes "action") []
with_required Optgroup attrs = with_new attrs (codes "label") []
with_required Textarea attrs = with_new (with_new attrs (codes "rows") (codes "4")) (codes "cols") (codes "40")
with_required element attrs = attrs

-- the attributes with those that are put in
abbrev pub completed_attributes : Element → List Attribute → List Attribute
completed_attributes element attrs = with_required element (with_language (language_told attrs) attrs)
