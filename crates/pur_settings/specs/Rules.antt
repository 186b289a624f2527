-- What settings say: their record, and the answer to each question that a pass asks of them.
use Rattle.std.specs.Prelude.{ℕ, Bool, true, false, List, [], Option, Some, None, is_some, not, ◌&&◌, ◌||◌}
use Rattle.std.specs.List.{list_any}
use Rattle.pur_text.specs.Hosts.{is_host}
use Rattle.pur_names.specs.Attributes.{same_attr}
use Rattle.pur_names.specs.Elements.{element_named, same_element}
use Rattle.pur_names.specs.Properties.{same_prop}
use Rattle.pur_names.specs.Schemes.{same_scheme}
use Rattle.pur_names.specs.declared.attributes.Attr.{Attr}
use Rattle.pur_names.specs.declared.attributes.Attr.TheVariants.{Id}
use Rattle.pur_names.specs.declared.elements.Element.{Element}
use Rattle.pur_names.specs.declared.properties.StyleProp.{StyleProp}
use Rattle.pur_names.specs.declared.schemes.SchemeName.{SchemeName}
use Rattle.pur_modules.specs.AttributeLists.{attributes_of, required_of}
use Rattle.pur_modules.specs.Groups.{is_among, elements_of, of_forms}
use Rattle.pur_modules.specs.declared.kinds.Content.{Content}
use Rattle.pur_modules.specs.declared.kinds.Content.TheVariants.{Flow, Inline}
use Rattle.pur_modules.specs.declared.kinds.Doctype.{Doctype}
use Rattle.pur_modules.specs.declared.kinds.Doctype.TheVariants.{Transitional}
use Rattle.pur_settings.specs.Items.{covers}
use Rattle.pur_settings.specs.declared.items.Item.{Item}

-- the member of each key, in the order of the keys; a list that a text lacks is no list, which permits all of its sort;
-- attributes, elements, properties and schemes that are listed or denied stand here each once, in the order in which all
-- of them stand
pub record Rules : Type 0 where
  pub attributes : Option (List Item)
  pub auto_paragraph : Bool
  pub denied_attributes : List Item
  pub denied_elements : List Element
  pub denied_hosts : List (List ℕ)
  pub denied_properties : List StyleProp
  pub denied_schemes : List SchemeName
  pub doctype : Doctype
  pub elements : Option (List Element)
  pub escapes_foreign : Bool
  pub external : Bool
  pub forms : Bool
  pub host : Option (List ℕ)
  pub id_prefix : List ℕ
  pub ids : Bool
  pub linkify : Bool
  pub parent : Content
  pub properties : Option (List StyleProp)
  pub schemes : Option (List SchemeName)

-- the settings of a site that sets nothing
abbrev pub default_rules : Rules
default_rules = record {
  attributes = None;
  auto_paragraph = false;
  denied_attributes = [];
  denied_elements = [];
  denied_hosts = [];
  denied_properties = [];
  denied_schemes = [];
  doctype = Transitional;
  elements = None;
  escapes_foreign = false;
  external = true;
  forms = false;
  host = None;
  id_prefix = [];
  ids = false;
  linkify = false;
  parent = Flow;
  properties = None;
  schemes = None;
}

-- whether this is what a fragment may hold: what a `div` holds, or what a `span` holds
abbrev pub is_for_fragments : Content → Bool
is_for_fragments Flow = true
is_for_fragments Inline = true
is_for_fragments content = false

-- whether a text, if there is one, is a canonical host
abbrev pub is_host_or_none : Option (List ℕ) → Bool
is_host_or_none None = true
is_host_or_none (Some host) = is_host host

-- whether no host but the site's own may be reached, and that isn't told
abbrev pub is_in_conflict : Rules → Bool
is_in_conflict rules = not (rules.external || is_some rules.host)

-- whether something is listed, where there is a list, and not denied: a list has it where one of its members passes a test
abbrev pub is_listed : {A : Type 0} → Option (List A) → List A → (A → Bool) → Bool
is_listed None denied test = not (list_any test denied)
is_listed (Some list) denied test = list_any test list && not (list_any test denied)

-- whether an element may stand in what the filter writes: the doctype has it, it is none of forms unless these may stand
-- there, and it is listed and not denied
abbrev pub permits_element : Rules → Element → Bool
permits_element rules element =
    is_among (elements_of rules.doctype) element
    && ((rules.forms || not (is_among of_forms element)) && is_listed rules.elements rules.denied_elements (same_element element))

-- whether the element that was found for a name, if one was, may stand there
abbrev pub permits_found : Rules → Option Element → Bool
permits_found rules None = false
permits_found rules (Some element) = permits_element rules element

-- whether a name is that of an element that may
abbrev pub permits_name : Rules → List ℕ → Bool
permits_name rules name = permits_found rules (element_named name)

-- whether an attribute may stand on an element: the doctype declares it there, and it is required there, or an item
-- covers it where there is a list, and none that is denied; `id` only where elements may have one
abbrev pub permits_attribute : Rules → Element → Attr → Bool
permits_attribute rules element attr =
    list_any (same_attr attr) (attributes_of rules.doctype element)
    && (is_listed rules.attributes rules.denied_attributes (covers element attr) || list_any (same_attr attr) (required_of element))
    && (not (same_attr attr Id) || rules.ids)

-- whether a property of CSS may stand in a style
abbrev pub permits_property : Rules → StyleProp → Bool
permits_property rules property = is_listed rules.properties rules.denied_properties (same_prop property)

-- whether a URI may have a scheme
abbrev pub permits_a_scheme : Rules → SchemeName → Bool
permits_a_scheme rules scheme = is_listed rules.schemes rules.denied_schemes (same_scheme scheme)
