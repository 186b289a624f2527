-- What holds of nodes whose URIs are absolute.
use Rattle.std.specs.Prelude.{◌≡◌, ℕ, Bool, true, false, ◌&&◌, List, is_some, encode_utf8_all}
use Rattle.std.specs.List.{list_all}
use Rattle.std.specs.Option.{option_map_or}
use Rattle.pur_names.specs.Attributes.{attr_named}
use Rattle.pur_names.specs.declared.attributes.Attr.{Attr}
use Rattle.pur_names.specs.declared.attributes.Attr.TheVariants.{Action, Cite, Href, Longdesc, Src, Style}
use Rattle.pur_settings.specs.Rules.{Rules}
use Rattle.pur_attrlist.specs.Attributes.{Attribute}
use Rattle.pur_csstok.specs.Declarations.{Pair, declarations_of}
use Rattle.pur_names.specs.declared.elements.Element.{Element}
use Rattle.pur_tree.specs.Forests.{IsForest}
use Rattle.pur_tree.specs.Nodes.{PlainElem, Nodes, is_joined}
use Rattle.pur_tree.specs.Properties.{Holds, free, permitted}
use Rattle.pur_uri.specs.Uris.{PlainUri, IsCanonical, uri_of}
use Rattle.pur_uripolicy.specs.Admissible.{is_fit}
use Rattle.pur_uripolicy.specs.HostRules.{PlainHostRule}
use Rattle.pur_uripolicy.specs.declared.uses.UriUse.TheVariants.{Embed}
use Rattle.pur_resolve.specs.Bases.{IsBase}
use Rattle.pur_validity.specs.Attributes.{each_elem, has_valid_values}
use Rattle.pur_validity.specs.Validity.{IsValid}
use Rattle.pur_absolute.specs.Absolute.{url_in, with_absolute_uris}

-- a text writes a URI that has a scheme and is allowed
abbrev pub is_absolute_uri : (PlainUri → Bool) → List ℕ → Bool
is_absolute_uri allows text = option_map_or (λ uri. is_some uri.scheme && allows uri) (uri_of (encode_utf8_all text)) false

-- the value of a declaration, if it is a URL, writes one
abbrev pub is_absolute_declared : (PlainUri → Bool) → Pair → Bool
is_absolute_declared allows pair = option_map_or (is_absolute_uri allows) (url_in pair) true

-- the value of an attribute, if it is a URI, writes one, and so do the URLs of a style
abbrev pub is_absolute_on : (PlainUri → Bool) → Attr → List ℕ → Bool
is_absolute_on allows Action value = is_absolute_uri allows value
is_absolute_on allows Cite value = is_absolute_uri allows value
is_absolute_on allows Href value = is_absolute_uri allows value
is_absolute_on allows Longdesc value = is_absolute_uri allows value
is_absolute_on allows Src value = is_absolute_uri allows value
is_absolute_on allows Style value = list_all (is_absolute_declared allows) (declarations_of value)
is_absolute_on allows attr value = true

abbrev pub is_absolute_attribute : (PlainUri → Bool) → Attribute → Bool
is_absolute_attribute allows pair = option_map_or (λ attr. is_absolute_on allows attr pair.1) (attr_named pair.0) true

-- each URI of an element has a scheme and is allowed
abbrev pub has_absolute_uris : (PlainUri → Bool) → PlainElem → Bool
has_absolute_uris allows e = list_all (is_absolute_attribute allows) e.attrs

-- a base that may stand in a value itself, for what is embedded
pub record IsFitBase (rules : Rules) (rule : PlainHostRule) (base : PlainUri) : Type 0 where
  pub resolves : IsBase base
  pub canonical : IsCanonical base
  pub fit : is_fit rules rule Embed base ≡ true

-- where each value was its own reading, each still is; each URI has a scheme and is allowed; and making them absolute again
-- changes nothing
pub record StaysAbsolute (rules : Rules) (rule : PlainHostRule) (allows : PlainUri → Bool) (base : PlainUri) (nodes : Nodes) : Type 0 where
  pub valid : each_elem (has_valid_values rules rule) (with_absolute_uris allows base nodes) ≡ true
  pub absolute : each_elem (has_absolute_uris allows) (with_absolute_uris allows base nodes) ≡ true
  pub again : with_absolute_uris allows base (with_absolute_uris allows base nodes) ≡ with_absolute_uris allows base nodes

abbrev pub AbsoluteStays : Type 0
AbsoluteStays = (rules : Rules) (rule : PlainHostRule) (allows : PlainUri → Bool) (base : PlainUri) (nodes : Nodes) → IsFitBase rules rule base
    → each_elem (has_valid_values rules rule) nodes ≡ true → StaysAbsolute rules rule allows base nodes

-- attributes aside: a forest stays one, no texts are neighbours, no element comes to stand in one that excludes it, and all
-- elements stay permitted
pub record KeepsNodes (allows : PlainUri → Bool) (base : PlainUri) (nodes : Nodes) : Type 0 where
  pub forest : IsForest nodes → IsForest (with_absolute_uris allows base nodes)
  pub joined : is_joined (with_absolute_uris allows base nodes) ≡ true
  pub excluded : (outer : List Element) → Holds free outer nodes → Holds free outer (with_absolute_uris allows base nodes)
  pub allowed : (permits : Element → Bool) → Holds (permitted permits) tt nodes → Holds (permitted permits) tt (with_absolute_uris allows base nodes)

-- valid nodes stay valid, where the base may stand in them
abbrev pub StaysValid : Type 0
StaysValid = (rules : Rules) (rule : PlainHostRule) (allows : PlainUri → Bool) (base : PlainUri) (nodes : Nodes) → IsFitBase rules rule base
    → IsValid rules rule nodes → IsValid rules rule (with_absolute_uris allows base nodes)
