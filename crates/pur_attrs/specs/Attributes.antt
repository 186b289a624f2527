-- Nodes with valid attributes (HTML Purifier's fourth strategy).
use Rattle.std.specs.Prelude.{List}
use Rattle.pur_names.specs.declared.elements.Element.{Element}
use Rattle.pur_settings.specs.Rules.{Rules}
use Rattle.pur_attrlist.specs.Attributes.{Attribute}
use Rattle.pur_tree.specs.Nodes.{Nodes, no_nodes, elem_first, plain_elem}
use Rattle.pur_tree.specs.Walks.{walk}
use Rattle.pur_uripolicy.specs.HostRules.{PlainHostRule}
use Rattle.pur_attrs.specs.Ids.{with_first_ids}
use Rattle.pur_attrs.specs.Steps.{kept_attributes, completed_attributes}

-- nodes in which the attributes of each element, by themselves, are changed
abbrev pub with_changed_attributes : (Element → List Attribute → List Attribute) → Nodes → Nodes
with_changed_attributes changed nodes = walk (λ e kids. elem_first (plain_elem e.name (changed e.name e.attrs)) kids no_nodes) nodes

-- nodes after the attributes were gone through: of each element what is kept is read, then the ids of the document are
-- looked at as one list, and then what is missing is put in
abbrev pub with_valid_attributes : Rules → PlainHostRule → Nodes → Nodes
with_valid_attributes rules rule nodes =
    with_changed_attributes completed_attributes
    (with_first_ids rules.id_prefix (with_changed_attributes (kept_attributes rules rule) nodes))
