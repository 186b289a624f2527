-- Parts of what becomes of the attributes of one element.
use Rattle.std.specs.Prelude.{ℕ, List, [], ◌++◌, map, Option, None, Some, if◌then◌else◌, codes, encode_utf8_all}
use Rattle.std.specs.Option.{option_and_then, option_map_or}
use Rattle.pur_names.specs.declared.elements.Element.{Element}
use Rattle.pur_attrlist.specs.Attributes.{Attribute, has_name, value_of, with_new, without}
use Rattle.pur_uri.specs.Uris.{PlainUri, uri_of}
use Rattle.pur_attrs.specs.Steps.{name_as_id, styled_by, aligned, colored, cells}

-- attributes in which a `name` is the `id` in its place, or goes where there is one
abbrev pub named_by_id : List Attribute → List Attribute
named_by_id attrs = if has_name attrs (codes "id") then without attrs (codes "name") else map name_as_id attrs

-- the parts of the style that Strict has for attributes
abbrev pub align_style : Element → List Attribute → List ℕ
align_style element attrs = styled_by aligned element (λ value. codes "text-align:" ++ value ++ codes ";") (value_of attrs (codes "align"))

abbrev pub color_style : Element → List Attribute → List ℕ
color_style element attrs = styled_by colored element (λ value. codes "background-color:" ++ value ++ codes ";") (value_of attrs (codes "bgcolor"))

abbrev pub nowrap_style : Element → List Attribute → List ℕ
nowrap_style element attrs = styled_by cells element (λ value. codes "white-space:nowrap;") (value_of attrs (codes "nowrap"))

-- a declaration of a value, or none where there is no value
abbrev pub declared : List ℕ → Option (List ℕ) → List ℕ
declared property found = option_map_or (λ value. property ++ codes ":" ++ value ++ codes ";") found []

-- the URI that the `src` among attributes writes
abbrev pub source_of : List Attribute → Option PlainUri
source_of attrs = option_and_then (λ value. uri_of (encode_utf8_all value)) (value_of attrs (codes "src"))

-- attributes with one more, if there is one, unless its name is there
abbrev pub with_one : List Attribute → Option Attribute → List Attribute
with_one attrs None = attrs
with_one attrs (Some pair) = with_new attrs pair.0 pair.1
