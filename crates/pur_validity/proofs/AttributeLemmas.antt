-- The test of attributes decides whether they are valid.
use Rattle.std.proofs.Common.{◌≡◌, true}
use Rattle.std.specs.List.{list_all}
use Rattle.std.proofs.lemmas.Bool.{and_from, and_parts}
use Rattle.pur_settings.specs.Rules.{Rules}
use Rattle.pur_tree.specs.Nodes.{Nodes}
use Rattle.pur_uripolicy.specs.HostRules.{PlainHostRule}
use Rattle.pur_validity.specs.Attributes.{HasValidAttributes, has_valid_values, has_required, has_one_language, each_elem, ids_of, has_prefix, are_different}
use Rattle.pur_validity.specs.Deciding.{have_valid_attributes}

pub attributes-if : (rules : Rules) (rule : PlainHostRule) (nodes : Nodes) → have_valid_attributes rules rule nodes ≡ true → HasValidAttributes rules rule nodes
attributes-if rules rule nodes h =
    let values = and_parts (each_elem (has_valid_values rules rule) nodes) _ h in
    let required = and_parts (each_elem has_required nodes) _ values.1 in
    let languages = and_parts (each_elem has_one_language nodes) _ required.1 in
    let ids = and_parts (list_all (has_prefix rules.id_prefix) (ids_of nodes)) (are_different (ids_of nodes)) languages.1 in
    record { values = values.0; required = required.0; languages = languages.0; prefixed = ids.0; distinct = ids.1 }

pub if-attributes : (rules : Rules) (rule : PlainHostRule) (nodes : Nodes) → HasValidAttributes rules rule nodes → have_valid_attributes rules rule nodes ≡ true
if-attributes rules rule nodes v =
    and_from _ _ v.values (and_from _ _ v.required (and_from _ _ v.languages (and_from _ _ v.prefixed v.distinct)))
