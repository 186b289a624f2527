-- Nodes gone through in document order, behind others whose ids are known.
use Rattle.std.specs.Prelude.{ℕ, Bool, ◌||◌, List, [], ◌∷◌, map, Option, None, Some, if◌then◌else◌, String}
use Rattle.std.specs.BTreeSet.{BTreeSet}
use Rattle.std.specs.List.{list_any}
use Rattle.std.specs.declared.alloc.Global.{Global}
use Rattle.pur_names.specs.declared.elements.Element.{Element}
use Rattle.pur_settings.specs.Rules.{Rules}
use Rattle.pur_attrlist.specs.Attributes.{Attribute, is_same_text}
use Rattle.pur_attrlist.specs.Texts.{text_of}
use Rattle.pur_tree.specs.Nodes.{Nodes}
use Rattle.pur_uripolicy.specs.HostRules.{PlainHostRule}
use Rattle.pur_validity.specs.Attributes.{ids_in, ids_of}
use Rattle.pur_attrs.specs.Attributes.{with_changed_attributes}
use Rattle.pur_attrs.specs.Ids.{with_prefix, with_id, with_ids}
use Rattle.pur_attrs.specs.Steps.{kept_attributes, completed_attributes}

-- which texts were seen
abbrev pub Seen : Type 0
Seen = List ℕ → Bool

-- those of a set
abbrev pub seen_in : BTreeSet (String Global) → Seen
seen_in set = λ text. list_any (λ key. is_same_text text (text_of key)) set.keys

-- and one more
abbrev pub seen_with : List ℕ → Seen → Seen
seen_with id seen = λ text. is_same_text id text || seen text

-- and more of them
abbrev pub seen_behind : Seen → List (List ℕ) → Seen
seen_behind seen [] = seen
seen_behind seen (id ∷ ids) = seen_behind (seen_with id seen) ids

-- each of the ids, or none in the place of one that was seen or stands earlier
abbrev pub told_behind : Seen → List (List ℕ) → List (Option (List ℕ))
told_behind seen [] = []
told_behind seen (id ∷ ids) = (if seen id then None else Some id) ∷ told_behind (seen_with id seen) ids

-- the ids of attributes, each with the prefix
abbrev pub prefixed_ids : List ℕ → List Attribute → List (List ℕ)
prefixed_ids prefix attrs = map (with_prefix prefix) (ids_in attrs)

-- attributes with what becomes of their id, where others were seen
abbrev pub with_id_behind : List ℕ → Seen → List Attribute → List Attribute
with_id_behind prefix seen attrs = with_id (told_behind seen (prefixed_ids prefix attrs)) attrs

-- what becomes of the attributes of an element, where others were seen
abbrev pub attributes_behind : Rules → PlainHostRule → Seen → Element → List Attribute → List Attribute
attributes_behind rules rule seen element attrs =
    completed_attributes element (with_id_behind rules.id_prefix seen (kept_attributes rules rule element attrs))

-- the ids of nodes, as they will be seen
abbrev pub ids_put : Rules → PlainHostRule → Nodes → List (List ℕ)
ids_put rules rule nodes = map (with_prefix rules.id_prefix) (ids_of (with_changed_attributes (kept_attributes rules rule) nodes))

-- what becomes of nodes, where others were seen
abbrev pub valid_behind : Rules → PlainHostRule → Seen → Nodes → Nodes
valid_behind rules rule seen nodes =
    with_changed_attributes completed_attributes
    (with_ids (told_behind seen (ids_put rules rule nodes)) (with_changed_attributes (kept_attributes rules rule) nodes))
