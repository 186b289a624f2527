-- Whether nodes are valid, by tests that compute.
use Rattle.std.specs.Prelude.{Bool, true, ◌&&◌, not, nat_le, List, [], ◌∷◌}
use Rattle.std.specs.List.{list_all}
use Rattle.pur_names.specs.declared.elements.Element.{Element}
use Rattle.pur_modules.specs.declared.kinds.Content.{Content}
use Rattle.pur_modules.specs.declared.kinds.Doctype.{Doctype}
use Rattle.pur_modules.specs.Contents.{content_held, is_excluded_in}
use Rattle.pur_modules.specs.Expressions.{has_text_letter}
use Rattle.pur_models.specs.Deciding.{is_word}
use Rattle.pur_settings.specs.Rules.{Rules, permits_element}
use Rattle.pur_tree.specs.Nodes.{Nodes, no_nodes, text_first, elem_first, level_of}
use Rattle.pur_tree.specs.Places.{level_limit}
use Rattle.pur_tree.specs.Words.{word_of}
use Rattle.pur_uripolicy.specs.HostRules.{PlainHostRule}
use Rattle.pur_validity.specs.Attributes.{has_valid_values, has_required, has_one_language, each_elem, ids_of, has_prefix, are_different}

-- whether nodes are a word of a content kind
abbrev pub are_word : Doctype → Content → Nodes → Bool
are_word doctype content nodes = is_word doctype content (word_of (has_text_letter doctype content) nodes)

-- whether each element, at any depth, has a word for its children, is permitted, and stands in none that excludes it; where is
-- told by the content round the nodes, and by the elements round them, innermost first
abbrev pub are_right : Rules → Content → List Element → Nodes → Bool
are_right rules content outer no_nodes = true
are_right rules content outer (text_first s rest) = are_right rules content outer rest
are_right rules content outer (elem_first e kids rest) =
    (are_word rules.doctype (content_held rules.doctype e.name content) kids && (permits_element rules e.name && not (is_excluded_in outer e.name)))
    && (are_right rules (content_held rules.doctype e.name content) (e.name ∷ outer) kids && are_right rules content outer rest)

-- whether the ids of nodes are as settings want them
abbrev pub have_valid_ids : Rules → Nodes → Bool
have_valid_ids rules nodes = list_all (has_prefix rules.id_prefix) (ids_of nodes) && are_different (ids_of nodes)

-- whether nodes have valid attributes
abbrev pub have_valid_attributes : Rules → PlainHostRule → Nodes → Bool
have_valid_attributes rules rule nodes =
    each_elem (has_valid_values rules rule) nodes
    && (each_elem has_required nodes && (each_elem has_one_language nodes && have_valid_ids rules nodes))

-- whether nodes are valid, attributes aside
abbrev pub have_valid_structure : Rules → Nodes → Bool
have_valid_structure rules nodes =
    (are_word rules.doctype rules.parent nodes && are_right rules rules.parent [] nodes) && nat_le (level_of nodes) level_limit

-- whether nodes are valid
abbrev pub are_valid : Rules → PlainHostRule → Nodes → Bool
are_valid rules rule nodes = have_valid_structure rules nodes && have_valid_attributes rules rule nodes
