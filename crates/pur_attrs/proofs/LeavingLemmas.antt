-- Nodes with valid attributes stay as they are.
use Rattle.std.proofs.Common.{◌≡◌, ℕ, Bool, true, ◌&&◌, List, ◌++◌, length, take, drop, map, Option, Some, refl, sym, ap, ◌∙◌}
use Rattle.std.proofs.lemmas.Bool.{and_parts}
use Rattle.std.proofs.lemmas.List.{length-map, map-append}
use Rattle.std.proofs.Math.Seq.{take-append_seam, drop-append_seam}
use Rattle.pur_names.specs.declared.elements.Element.{Element}
use Rattle.pur_settings.specs.Rules.{Rules}
use Rattle.pur_attrlist.specs.Attributes.{Attribute}
use Rattle.pur_tree.specs.Nodes.{PlainElem, Nodes, no_nodes, text_first, elem_first, plain_elem}
use Rattle.pur_uripolicy.specs.HostRules.{PlainHostRule}
use Rattle.pur_validity.specs.Attributes.{HasValidAttributes, has_required, has_one_language, has_valid_values, each_elem, ids_in, ids_of}
use Rattle.pur_attrs.specs.Attributes.{with_changed_attributes, with_valid_attributes}
use Rattle.pur_attrs.specs.Ids.{ids_kept, with_id, with_ids}
use Rattle.pur_attrs.specs.Steps.{kept_attributes, completed_attributes}
use Rattle.pur_attrs.proofs.ElementLemmas.{kept-same, own-id, completed-same}
use Rattle.pur_attrs.proofs.FirstLemmas as first

-- where each element's attributes stay, all nodes do
changed-same : (changed : Element → List Attribute → List Attribute) (test : PlainElem → Bool)
    → ((e : PlainElem) → test e ≡ true → changed e.name e.attrs ≡ e.attrs) → (nodes : Nodes) → each_elem test nodes ≡ true
    → with_changed_attributes changed nodes ≡ nodes
changed-same changed test same no_nodes all = refl
changed-same changed test same (text_first s rest) all = ap (text_first s) (changed-same changed test same rest all)
changed-same changed test same (elem_first e kids rest) all =
    let here = and_parts (test e) (each_elem test kids && each_elem test rest) all in
    let below = and_parts (each_elem test kids) (each_elem test rest) here.1 in
    ap (λ attrs. elem_first (plain_elem e.name attrs) (with_changed_attributes changed kids) (with_changed_attributes changed rest)) (same e here.0)
    ∙ ap (λ k. elem_first e k (with_changed_attributes changed rest)) (changed-same changed test same kids below.0)
    ∙ ap (elem_first e kids) (changed-same changed test same rest below.1)

-- each element with its own id
pub own-ids : (nodes : Nodes) → with_ids (map Some (ids_of nodes)) nodes ≡ nodes
own-ids no_nodes = refl
own-ids (text_first s rest) = ap (text_first s) (own-ids rest)
own-ids (elem_first e kids rest) =
    let own = ids_in e.attrs in
    let below = ids_of kids in
    let after = ids_of rest in
    let told : List (Option (List ℕ)) = map Some (own ++ (below ++ after)) in
    let parts : told ≡ map Some own ++ (map Some below ++ map Some after) =
    map-append Some own (below ++ after) ∙ ap (λ l. map Some own ++ l) (map-append Some below after) in
    let one : take (length own) told ≡ map Some own =
    ap (take (length own)) parts ∙ ap (λ n. take n (map Some own ++ (map Some below ++ map Some after))) (sym (length-map own Some)) ∙ take-append_seam (map Some own) (map Some below ++ map Some after) in
    let behind : drop (length own) told ≡ map Some below ++ map Some after =
    ap (drop (length own)) parts ∙ ap (λ n. drop n (map Some own ++ (map Some below ++ map Some after))) (sym (length-map own Some)) ∙ drop-append_seam (map Some own) (map Some below ++ map Some after) in
    let two : take (length below) (drop (length own) told) ≡ map Some below =
    ap (take (length below)) behind ∙ ap (λ n. take n (map Some below ++ map Some after)) (sym (length-map below Some)) ∙ take-append_seam (map Some below) (map Some after) in
    let three : drop (length below) (drop (length own) told) ≡ map Some after =
    ap (drop (length below)) behind ∙ ap (λ n. drop n (map Some below ++ map Some after)) (sym (length-map below Some)) ∙ drop-append_seam (map Some below) (map Some after) in
    ap (λ l. elem_first (plain_elem e.name (with_id l e.attrs)) (with_ids (take (length below) (drop (length own) told)) kids) (with_ids (drop (length below) (drop (length own) told)) rest)) one
    ∙ ap (λ attrs. elem_first (plain_elem e.name attrs) (with_ids (take (length below) (drop (length own) told)) kids) (with_ids (drop (length below) (drop (length own) told)) rest)) (own-id e.attrs)
    ∙ ap (λ l. elem_first e (with_ids l kids) (with_ids (drop (length below) (drop (length own) told)) rest)) two
    ∙ ap (λ k. elem_first e k (with_ids (drop (length below) (drop (length own) told)) rest)) (own-ids kids)
    ∙ ap (λ l. elem_first e kids (with_ids l rest)) three
    ∙ ap (elem_first e kids) (own-ids rest)

pub valid-stay : (rules : Rules) (rule : PlainHostRule) (nodes : Nodes) → HasValidAttributes rules rule nodes → with_valid_attributes rules rule nodes ≡ nodes
valid-stay rules rule nodes valid =
    ap (λ n. with_changed_attributes completed_attributes (with_ids (ids_kept rules.id_prefix (ids_of n)) n))
    (changed-same (kept_attributes rules rule) (has_valid_values rules rule) (kept-same rules rule) nodes valid.values)
    ∙ ap (λ told. with_changed_attributes completed_attributes (with_ids told nodes))
    (first.kept-same rules.id_prefix (ids_of nodes) valid.prefixed valid.distinct)
    ∙ ap (with_changed_attributes completed_attributes) (own-ids nodes)
    ∙ both-same nodes valid.required valid.languages
  where
    both-same : (n : Nodes) → each_elem has_required n ≡ true → each_elem has_one_language n ≡ true → with_changed_attributes completed_attributes n ≡ n
    both-same no_nodes required languages = refl
    both-same (text_first s rest) required languages = ap (text_first s) (both-same rest required languages)
    both-same (elem_first e kids rest) required languages =
        let have = and_parts (has_required e) (each_elem has_required kids && each_elem has_required rest) required in
        let have_below = and_parts (each_elem has_required kids) (each_elem has_required rest) have.1 in
        let tell = and_parts (has_one_language e) (each_elem has_one_language kids && each_elem has_one_language rest) languages in
        let tell_below = and_parts (each_elem has_one_language kids) (each_elem has_one_language rest) tell.1 in
        ap (λ attrs. elem_first (plain_elem e.name attrs) (with_changed_attributes completed_attributes kids) (with_changed_attributes completed_attributes rest)) (completed-same e have.0 tell.0)
        ∙ ap (λ k. elem_first e k (with_changed_attributes completed_attributes rest)) (both-same kids have_below.0 tell_below.0)
        ∙ ap (elem_first e kids) (both-same rest have_below.1 tell_below.1)
