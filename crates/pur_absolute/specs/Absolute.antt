-- Nodes whose URIs are absolute: each stands for what it means where the base is (RFC 3986, section 5). What a site allows of
-- URIs is given as a test.
use Rattle.std.specs.Prelude.{ℕ, Bool, ◌&&◌, not, if◌then◌else◌, List, [], ◌∷◌, Option, Some, None, option_map, is_some, codes, encode_utf8_all}
use Rattle.std.specs.List.{filter_map, list_any}
use Rattle.std.specs.Option.{option_and_then, option_map_or}
use Rattle.pur_names.specs.Attributes.{attr_name, attr_named}
use Rattle.pur_names.specs.declared.attributes.Attr.{Attr}
use Rattle.pur_names.specs.declared.attributes.Attr.TheVariants.{Action, Cite, Href, Longdesc, Src, Style}
use Rattle.pur_names.specs.declared.elements.Element.{Element}
use Rattle.pur_modules.specs.AttributeLists.{required_of}
use Rattle.pur_attrlist.specs.Attributes.{Attribute, is_same_text}
use Rattle.pur_csstok.specs.Declarations.{Pair, declarations_of, style_text}
use Rattle.pur_csstok.specs.Urls.{url_read, url_text}
use Rattle.pur_tree.specs.Nodes.{PlainElem, Nodes, no_nodes, elem_first, plain_elem}
use Rattle.pur_tree.specs.Walks.{walk, joined_nodes}
use Rattle.pur_uri.specs.Laws.{has_comment}
use Rattle.pur_uri.specs.Uris.{PlainUri, uri_of, uri_text}
use Rattle.pur_resolve.specs.Resolving.{resolved}

-- a URI, where it is allowed
abbrev pub where_allowed : (PlainUri → Bool) → PlainUri → Option PlainUri
where_allowed allows uri = if allows uri then Some uri else None

-- what the characters of a reference mean, where that is allowed
unfoldable pub absolute_uri : (PlainUri → Bool) → PlainUri → List ℕ → Option PlainUri
absolute_uri allows base text = option_and_then (λ uri. where_allowed allows (resolved base uri)) (uri_of (encode_utf8_all text))

-- its text
abbrev pub absolute_text : (PlainUri → Bool) → PlainUri → List ℕ → Option (List ℕ)
absolute_text allows base text = option_map uri_text (absolute_uri allows base text)

-- ---- styles

-- a text in `url()`, unless `/*` stands in it, which no declaration may have (CSS 2.1, section 4.1.9)
abbrev pub url_without_comment : List ℕ → Option (List ℕ)
url_without_comment text = if has_comment text then None else Some (url_text text)

-- the properties whose value may be a URL (CSS 2.1, sections 12.5.1 and 14.2.1)
abbrev pub takes_url : List ℕ → Bool
takes_url property = list_any (is_same_text property) (codes "background-image" ∷ codes "list-style-image" ∷ [])

-- the text of the URL that the value of a declaration is, if it is one
unfoldable pub url_in : Pair → Option (List ℕ)
url_in pair = if takes_url pair.0 then url_read pair.1 else None

-- what becomes of a declaration's value: a URL is absolute, or none where it isn't allowed; any other value stays
unfoldable pub absolute_declared : (PlainUri → Bool) → PlainUri → Pair → Option (List ℕ)
absolute_declared allows base pair =
    option_map_or (λ text. option_and_then url_without_comment (absolute_text allows base text)) (url_in pair) (Some pair.1)

abbrev pub absolute_declaration : (PlainUri → Bool) → PlainUri → Pair → Option Pair
absolute_declaration allows base pair = option_map (λ value. (pair.0, value)) (absolute_declared allows base pair)

-- the text of declarations; none where there are none
abbrev pub style_with : List Pair → Option (List ℕ)
style_with [] = None
style_with (pair ∷ pairs) = Some (style_text (pair ∷ pairs))

unfoldable pub absolute_style : (PlainUri → Bool) → PlainUri → List ℕ → Option (List ℕ)
absolute_style allows base style = style_with (filter_map (absolute_declaration allows base) (declarations_of style))

-- ---- attributes

-- what becomes of the value of an attribute: a URI and the URLs of a style are absolute, any other value stays; none where it
-- goes
abbrev pub absolute_on : (PlainUri → Bool) → PlainUri → Attr → List ℕ → Option (List ℕ)
absolute_on allows base Action value = absolute_text allows base value
absolute_on allows base Cite value = absolute_text allows base value
absolute_on allows base Href value = absolute_text allows base value
absolute_on allows base Longdesc value = absolute_text allows base value
absolute_on allows base Src value = absolute_text allows base value
absolute_on allows base Style value = absolute_style allows base value
absolute_on allows base attr value = Some value

-- the same by the attribute's name; a value stays where no attribute has the name
unfoldable pub absolute_value : (PlainUri → Bool) → PlainUri → Attribute → Option (List ℕ)
absolute_value allows base pair = option_map_or (λ attr. absolute_on allows base attr pair.1) (attr_named pair.0) (Some pair.1)

abbrev pub absolute_attribute : (PlainUri → Bool) → PlainUri → Attribute → Option Attribute
absolute_attribute allows base pair = option_map (λ value. (pair.0, value)) (absolute_value allows base pair)

-- ---- elements

-- whether an element must have the attribute of this name
unfoldable pub is_required : Element → List ℕ → Bool
is_required element name = list_any (λ attr. is_same_text name (attr_name attr)) (required_of element)

-- whether an attribute goes that the element must have
abbrev pub is_missed : (PlainUri → Bool) → PlainUri → Element → Attribute → Bool
is_missed allows base element pair = not (is_some (absolute_value allows base pair)) && is_required element pair.0

-- what becomes of the attributes of an element; none where one goes that it must have
abbrev pub absolute_attributes : (PlainUri → Bool) → PlainUri → Element → List Attribute → Option (List Attribute)
absolute_attributes allows base element attrs =
    if list_any (is_missed allows base element) attrs then None else Some (filter_map (absolute_attribute allows base) attrs)

-- an element round its children, which were gone through; it goes with them where it loses what it must have
abbrev pub absolute_element : (PlainUri → Bool) → PlainUri → PlainElem → Nodes → Nodes
absolute_element allows base e kids =
    option_map_or (λ attrs. elem_first (plain_elem e.name attrs) kids no_nodes) (absolute_attributes allows base e.name e.attrs) no_nodes

-- nodes whose URIs are absolute and allowed, with neighbouring texts as one
abbrev pub with_absolute_uris : (PlainUri → Bool) → PlainUri → Nodes → Nodes
with_absolute_uris allows base nodes = joined_nodes (walk (absolute_element allows base) nodes)
