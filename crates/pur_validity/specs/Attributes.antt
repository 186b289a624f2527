-- What is valid of attributes under settings and a rule of hosts (XML 1.0, section 3.3; XHTML 1.0, the attribute lists of the two DTDs, and
-- section C.7 on `lang` and `xml:lang`).
use Rattle.std.specs.Prelude.{ℕ, Bool, true, false, ◌≡◌, ◌&&◌, not, List, [], ◌∷◌, ◌++◌, take, length, Option, None, Some, if◌then◌else◌, codes, encode_utf8_all}
use Rattle.std.specs.List.{list_all, list_any}
use Rattle.std.specs.Option.{option_and_then, option_map, option_map_or}
use Rattle.pur_names.specs.Attributes.{attr_name, attr_named}
use Rattle.pur_names.specs.declared.attributes.Attr.{Attr}
use Rattle.pur_names.specs.declared.attributes.Attr.TheVariants.{Action, Cite, Href, Longdesc, Src, Style}
use Rattle.pur_names.specs.declared.elements.Element.{Element}
use Rattle.pur_modules.specs.AttributeLists.{required_of}
use Rattle.pur_cssprops.specs.Styles.{style_read}
use Rattle.pur_settings.specs.Rules.{Rules, permits_attribute}
use Rattle.pur_uripolicy.specs.Admissible.{uri_under}
use Rattle.pur_uri.specs.Uris.{PlainUri, uri_of, uri_text}
use Rattle.pur_uripolicy.specs.HostRules.{PlainHostRule}
use Rattle.pur_uripolicy.specs.declared.uses.UriUse.{UriUse}
use Rattle.pur_uripolicy.specs.declared.uses.UriUse.TheVariants.{Embed, Link}
use Rattle.pur_values.specs.Kinds.{kind_of}
use Rattle.pur_values.specs.Values as values
use Rattle.pur_attrlist.specs.Attributes.{Attribute, is_same_text, has_name, value_of}
use Rattle.pur_tree.specs.Nodes.{PlainElem, Nodes, no_nodes, text_first, elem_first}

-- the canonical text of a URI, where it is admissible for a use under settings and a rule of hosts
abbrev pub uri_on : Rules → PlainHostRule → UriUse → List ℕ → Option (List ℕ)
uri_on rules rule purpose raw = option_map uri_text (uri_under rules rule purpose raw)

-- what the value of an attribute on an element is read as: a link, the action of a form, or a picture's source by its URI, a style
-- by its declarations, any other by its kind
abbrev pub value_on : Rules → PlainHostRule → Element → Attr → List ℕ → Option (List ℕ)
value_on rules rule element Action raw = uri_on rules rule Link raw
value_on rules rule element Cite raw = uri_on rules rule Link raw
value_on rules rule element Href raw = uri_on rules rule Link raw
value_on rules rule element Longdesc raw = uri_on rules rule Link raw
value_on rules rule element Src raw = uri_on rules rule Embed raw
value_on rules rule element Style raw = style_read rules rule raw
value_on rules rule element attr raw = option_and_then (λ kind. values.value_of kind raw) (kind_of element attr)

-- what the value of an attribute is read as by its name; none, where no attribute has the name, it isn't declared on the element
-- and permitted, or the value isn't read
abbrev pub attribute_read : Rules → PlainHostRule → Element → List ℕ → List ℕ → Option (List ℕ)
attribute_read rules rule element name raw =
    option_and_then (λ attr. if permits_attribute rules element attr then value_on rules rule element attr raw else None) (attr_named name)

-- the URI that a value writes, where the name is `src`
abbrev pub source_in : List ℕ → List ℕ → Option PlainUri
source_in name value = if is_same_text (codes "src") name then uri_of (encode_utf8_all value) else None

-- whether a value is its own reading
abbrev pub is_canonical : Rules → PlainHostRule → Element → Attr → List ℕ → Bool
is_canonical rules rule element attr value = option_map_or (is_same_text value) (value_on rules rule element attr value) false

-- whether an attribute is declared and permitted on an element, and its value is its own reading
abbrev pub is_valid_attribute : Rules → PlainHostRule → Element → Attribute → Bool
is_valid_attribute rules rule element pair =
    option_map_or (λ attr. permits_attribute rules element attr && is_canonical rules rule element attr pair.1) (attr_named pair.0) false

-- whether an element's attributes are all so
abbrev pub has_valid_values : Rules → PlainHostRule → PlainElem → Bool
has_valid_values rules rule e = list_all (is_valid_attribute rules rule e.name) e.attrs

-- whether an element has the attributes that it must have
abbrev pub has_required : PlainElem → Bool
has_required e = list_all (λ attr. has_name e.attrs (attr_name attr)) (required_of e.name)

-- whether two texts are both absent, or both there and the same
abbrev pub are_alike : Option (List ℕ) → Option (List ℕ) → Bool
are_alike None None = true
are_alike None (Some second) = false
are_alike (Some first) None = false
are_alike (Some first) (Some second) = is_same_text first second

-- whether `lang` and `xml:lang` are so
abbrev pub has_one_language : PlainElem → Bool
has_one_language e = are_alike (value_of e.attrs (codes "lang")) (value_of e.attrs (codes "xml:lang"))

-- whether each element, at any depth, passes a test
abbrev pub each_elem : (PlainElem → Bool) → Nodes → Bool
each_elem test no_nodes = true
each_elem test (text_first s rest) = each_elem test rest
each_elem test (elem_first e kids rest) = test e && (each_elem test kids && each_elem test rest)

-- the id among attributes, if there is one
abbrev pub ids_in : List Attribute → List (List ℕ)
ids_in attrs = option_map_or (λ id. id ∷ []) (value_of attrs (codes "id")) []

-- the ids of all elements, in document order
abbrev pub ids_of : Nodes → List (List ℕ)
ids_of no_nodes = []
ids_of (text_first s rest) = ids_of rest
ids_of (elem_first e kids rest) = ids_in e.attrs ++ (ids_of kids ++ ids_of rest)

-- whether a text begins with a prefix
abbrev pub has_prefix : List ℕ → List ℕ → Bool
has_prefix prefix text = is_same_text (take (length prefix) text) prefix

-- whether no two of the texts are the same (XML 1.0, section 3.3.1: the constraint on ids)
abbrev pub are_different : List (List ℕ) → Bool
are_different [] = true
are_different (text ∷ texts) = not (list_any (is_same_text text) texts) && are_different texts

-- each attribute is declared and permitted, and each value is its own reading; required ones are there; `lang` and
-- `xml:lang` are both absent, or both there and the same; each id begins with the prefix, and no two are the same
pub record HasValidAttributes (rules : Rules) (rule : PlainHostRule) (nodes : Nodes) : Type 0 where
  pub values : each_elem (has_valid_values rules rule) nodes ≡ true
  pub required : each_elem has_required nodes ≡ true
  pub languages : each_elem has_one_language nodes ≡ true
  pub prefixed : list_all (has_prefix rules.id_prefix) (ids_of nodes) ≡ true
  pub distinct : are_different (ids_of nodes) ≡ true
