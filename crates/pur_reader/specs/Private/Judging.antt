-- Validity in one walk: what is asked of each element, with what is known of the elements round it.
use Rattle.std.specs.Prelude.{ℕ, Bool, true, ◌&&◌, ◌||◌, not, List, [], ◌∷◌, String}
use Rattle.std.specs.BTreeSet.{BTreeSet}
use Rattle.std.specs.List.{list_any}
use Rattle.std.specs.declared.alloc.Global.{Global}
use Rattle.pur_names.specs.declared.elements.Element.{Element}
use Rattle.pur_modules.specs.declared.kinds.Content.{Content}
use Rattle.pur_modules.specs.Contents.{content_held}
use Rattle.pur_modules.specs.Excluders.{is_excluded_by, with_excluder}
use Rattle.pur_modules.specs.declared.exclusions.Excluders.{Excluders}
use Rattle.pur_settings.specs.Rules.{Rules, permits_element}
use Rattle.pur_text.specs.Texts.{text_of}
use Rattle.pur_attrlist.specs.Attributes.{is_same_text}
use Rattle.pur_tree.specs.Nodes.{PlainElem, Nodes, no_nodes, text_first, elem_first}
use Rattle.pur_uripolicy.specs.HostRules.{PlainHostRule}
use Rattle.pur_validity.specs.Attributes.{has_valid_values, has_required, has_one_language, has_prefix}
use Rattle.pur_validity.specs.Deciding.{are_word}

-- whether an element may stand here, with these children
unfoldable pub is_right_here : Rules → Content → Excluders → Element → Nodes → Bool
is_right_here rules content round e kids =
    are_word rules.doctype (content_held rules.doctype e content) kids && (permits_element rules e && not (is_excluded_by round e))

-- whether its attributes are right, ids aside
unfoldable pub has_right_attributes : Rules → PlainHostRule → PlainElem → Bool
has_right_attributes rules rule e = has_valid_values rules rule e && (has_required e && has_one_language e)

-- whether nodes are right in some content, with what stands round them
abbrev pub right_within : Rules → PlainHostRule → Content → Excluders → Nodes → Bool
right_within rules rule content round no_nodes = true
right_within rules rule content round (text_first s rest) = right_within rules rule content round rest
right_within rules rule content round (elem_first e kids rest) =
    (is_right_here rules content round e.name kids && has_right_attributes rules rule e)
    && (right_within rules rule (content_held rules.doctype e.name content) (with_excluder e.name round) kids
    && right_within rules rule content round rest)

-- which texts were seen: those of a set
abbrev pub Seen : Type 0
Seen = List ℕ → Bool

abbrev pub seen_in : BTreeSet (String Global) → Seen
seen_in set = λ text. list_any (λ key. is_same_text text (text_of key)) set.keys

-- and one more
abbrev pub seen_with : List ℕ → Seen → Seen
seen_with id seen = λ text. is_same_text id text || seen text

-- and more of them
abbrev pub seen_behind : Seen → List (List ℕ) → Seen
seen_behind seen [] = seen
seen_behind seen (id ∷ ids) = seen_behind (seen_with id seen) ids

-- whether ids begin with the prefix, and none was seen or stands earlier
abbrev pub ids_right : List ℕ → Seen → List (List ℕ) → Bool
ids_right prefix seen [] = true
ids_right prefix seen (id ∷ ids) = (has_prefix prefix id && not (seen id)) && ids_right prefix (seen_with id seen) ids
