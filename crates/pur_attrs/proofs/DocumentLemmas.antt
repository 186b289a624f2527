-- What becomes of the attributes of all elements, and of the ids of a document.
use Rattle.std.proofs.Common.{◌≡◌, ℕ, Bool, true, ◌&&◌, List, [], ◌∷◌, ◌++◌, length, take, drop, map, Option, refl, sym, ap, ◌∙◌, arith, length-append}
use Rattle.std.specs.List.{list_all}
use Rattle.std.proofs.lemmas.Bool.{and_parts, and_from}
use Rattle.std.proofs.lemmas.List.{take-append-drop, length-drop, length-take-le}
use Rattle.std.proofs.lemmas.List.Elements.{filter_map-append}
use Rattle.pur_laws.proofs.Lists.{all-append, all-take, all-drop}
use Rattle.pur_names.specs.declared.elements.Element.{Element}
use Rattle.pur_text.specs.Characters.{is_allowed}
use Rattle.pur_settings.specs.Prefixes.{begins_an_id}
use Rattle.pur_settings.specs.Rules.{Rules}
use Rattle.pur_values.specs.Tokens.{is_id}
use Rattle.pur_attrlist.specs.Attributes.{Attribute, is_distinct}
use Rattle.pur_tree.specs.Nodes.{PlainElem, Nodes, no_nodes, text_first, elem_first, plain_elem}
use Rattle.pur_tree.specs.Spelling.{has_allowed_characters, has_allowed_values, has_distinct_names, is_spellable, is_spellable_attribute}
use Rattle.pur_uripolicy.specs.HostRules.{PlainHostRule}
use Rattle.pur_validity.specs.Attributes.{HasValidAttributes, has_valid_values, has_required, has_one_language, each_elem, ids_in, ids_of, has_prefix, are_different}
use Rattle.pur_attrs.specs.Attributes.{with_changed_attributes, with_valid_attributes}
use Rattle.pur_attrs.specs.Ids.{with_prefix, ids_kept, with_id, with_ids}
use Rattle.pur_attrs.specs.Laws.{bare_nodes, HaveSources}
use Rattle.pur_attrs.specs.Steps.{kept_attributes, completed_attributes}
use Rattle.pur_attrs.proofs.ElementLemmas.{is_fine, fine-valid, fine-spellable, fine-kept, has_src, has_good_source, kept-src, told-src, valid-id, id-fine, id-told, completed-id, completed-language, completed-required, completed-fine}
use Rattle.pur_attrs.proofs.FirstLemmas.{somes, passes, first-passes, all-mapped, kept-length, kept-begin, kept-distinct}
use Rattle.pur_attrs.proofs.StayingLemmas.{unchanged}
use Rattle.pur_attrs.proofs.ValueLemmas.{Readings, id-prefixed}

-- ---- each element by itself

each-passes : (nodes : Nodes) → each_elem (λ e. true) nodes ≡ true
each-passes no_nodes = refl
each-passes (text_first s rest) = each-passes rest
each-passes (elem_first e kids rest) = and_from _ _ (each-passes kids) (each-passes rest)

each-changed : (changed : Element → List Attribute → List Attribute) (before after : PlainElem → Bool)
    → ((e : PlainElem) → before e ≡ true → after (plain_elem e.name (changed e.name e.attrs)) ≡ true)
    → (nodes : Nodes) → each_elem before nodes ≡ true → each_elem after (with_changed_attributes changed nodes) ≡ true
each-changed changed before after keeps no_nodes all = refl
each-changed changed before after keeps (text_first s rest) all = each-changed changed before after keeps rest all
each-changed changed before after keeps (elem_first e kids rest) all =
    let here = and_parts (before e) (each_elem before kids && each_elem before rest) all in
    let below = and_parts (each_elem before kids) (each_elem before rest) here.1 in
    and_from _ _ (keeps e here.0)
    (and_from _ _ (each-changed changed before after keeps kids below.0) (each-changed changed before after keeps rest below.1))

ids-changed : (changed : Element → List Attribute → List Attribute)
    → ((element : Element) (attrs : List Attribute) → ids_in (changed element attrs) ≡ ids_in attrs)
    → (nodes : Nodes) → ids_of (with_changed_attributes changed nodes) ≡ ids_of nodes
ids-changed changed same no_nodes = refl
ids-changed changed same (text_first s rest) = ids-changed changed same rest
ids-changed changed same (elem_first e kids rest) =
    ap (λ l. l ++ (ids_of (with_changed_attributes changed kids) ++ ids_of (with_changed_attributes changed rest))) (same e.name e.attrs)
    ∙ ap (λ l. ids_in e.attrs ++ (l ++ ids_of (with_changed_attributes changed rest))) (ids-changed changed same kids)
    ∙ ap (λ l. ids_in e.attrs ++ (ids_of kids ++ l)) (ids-changed changed same rest)

-- ---- the ids of all

ids-told : (told : List (Option (List ℕ))) (nodes : Nodes) → length told ≡ length (ids_of nodes) → ids_of (with_ids told nodes) ≡ somes told
ids-told [] no_nodes same = refl
ids-told (one ∷ told) no_nodes same = absurd (omega (arith, same))
ids-told told (text_first s rest) same = ids-told told rest same
ids-told told (elem_first e kids rest) same =
    let own = ids_in e.attrs in
    let behind = drop (length own) told in
    let below = length (ids_of kids) in
    let one = length-append own (ids_of kids ++ ids_of rest) in
    let two = length-append (ids_of kids) (ids_of rest) in
    let three = length-drop (length own) told in
    let four = length-drop below behind in
    let inner : length (take below behind) ≡ below = length-take-le below behind (omega (arith, same, one, two, three)) in
    let last : length (drop below behind) ≡ length (ids_of rest) = omega (arith, same, one, two, three, four) in
    ap (λ l. l ++ (ids_of (with_ids (take below behind) kids) ++ ids_of (with_ids (drop below behind) rest)))
    (id-told e.attrs told (omega (arith, same, one, two)))
    ∙ ap (λ l. somes (take (length own) told) ++ (l ++ ids_of (with_ids (drop below behind) rest))) (ids-told (take below behind) kids inner)
    ∙ ap (λ l. somes (take (length own) told) ++ (somes (take below behind) ++ l)) (ids-told (drop below behind) rest last)
    ∙ ap (λ l. somes (take (length own) told) ++ l)
    (sym (filter_map-append (λ one. one) (take below behind) (drop below behind)) ∙ ap somes (take-append-drop below behind))
    ∙ sym (filter_map-append (λ one. one) (take (length own) told) behind) ∙ ap somes (take-append-drop (length own) told)

-- what each element keeps with another id
each-told : (before after : PlainElem → Bool)
    → ((e : PlainElem) (told : List (Option (List ℕ))) → before e ≡ true → list_all (passes is_id) told ≡ true
    → after (plain_elem e.name (with_id (take (length (ids_in e.attrs)) told) e.attrs)) ≡ true)
    → (told : List (Option (List ℕ))) (nodes : Nodes) → list_all (passes is_id) told ≡ true → each_elem before nodes ≡ true
    → each_elem after (with_ids told nodes) ≡ true
each-told before after keeps told no_nodes ids all = refl
each-told before after keeps told (text_first s rest) ids all = each-told before after keeps told rest ids all
each-told before after keeps told (elem_first e kids rest) ids all =
    let here = and_parts (before e) (each_elem before kids && each_elem before rest) all in
    let below = and_parts (each_elem before kids) (each_elem before rest) here.1 in
    let own = length (ids_in e.attrs) in
    let behind = all-drop (passes is_id) own told ids in
    and_from _ _ (keeps e told here.0 ids)
    (and_from _ _
    (each-told before after keeps (take (length (ids_of kids)) (drop own told)) kids (all-take (passes is_id) (length (ids_of kids)) (drop own told) behind) below.0)
    (each-told before after keeps (drop (length (ids_of kids)) (drop own told)) rest (all-drop (passes is_id) (length (ids_of kids)) (drop own told) behind) below.1))

-- the ids of valid attributes are such
valid-ids : (rules : Rules) (rule : PlainHostRule) (nodes : Nodes) → each_elem (is_fine rules rule) nodes ≡ true → list_all is_id (ids_of nodes) ≡ true
valid-ids rules rule no_nodes all = refl
valid-ids rules rule (text_first s rest) all = valid-ids rules rule rest all
valid-ids rules rule (elem_first e kids rest) all =
    let here = and_parts (is_fine rules rule e) (each_elem (is_fine rules rule) kids && each_elem (is_fine rules rule) rest) all in
    let below = and_parts (each_elem (is_fine rules rule) kids) (each_elem (is_fine rules rule) rest) here.1 in
    all-append is_id (ids_in e.attrs) (ids_of kids ++ ids_of rest) (valid-id rules rule e.name e.attrs (fine-valid rules rule e here.0))
    (all-append is_id (ids_of kids) (ids_of rest) (valid-ids rules rule kids below.0) (valid-ids rules rule rest below.1))

-- ---- what may be spelled

abbrev texts_allowed : Nodes → Bool
texts_allowed no_nodes = true
texts_allowed (text_first s rest) = list_all is_allowed s && texts_allowed rest
texts_allowed (elem_first e kids rest) = texts_allowed kids && texts_allowed rest

abbrev is_allowed_elem : PlainElem → Bool
is_allowed_elem e = has_allowed_values e.attrs

abbrev is_spellable_elem : PlainElem → Bool
is_spellable_elem e = list_all is_spellable_attribute e.attrs

allowed-elems : (nodes : Nodes) → has_allowed_characters nodes ≡ true → each_elem is_allowed_elem nodes ≡ true
allowed-elems no_nodes all = refl
allowed-elems (text_first s rest) all = allowed-elems rest (and_parts (list_all is_allowed s) (has_allowed_characters rest) all).1
allowed-elems (elem_first e kids rest) all =
    let here = and_parts (has_allowed_values e.attrs) (has_allowed_characters kids && has_allowed_characters rest) all in
    let below = and_parts (has_allowed_characters kids) (has_allowed_characters rest) here.1 in
    and_from _ _ here.0 (and_from _ _ (allowed-elems kids below.0) (allowed-elems rest below.1))

allowed-texts : (nodes : Nodes) → has_allowed_characters nodes ≡ true → texts_allowed nodes ≡ true
allowed-texts no_nodes all = refl
allowed-texts (text_first s rest) all =
    let parts = and_parts (list_all is_allowed s) (has_allowed_characters rest) all in
    and_from _ _ parts.0 (allowed-texts rest parts.1)
allowed-texts (elem_first e kids rest) all =
    let here = and_parts (has_allowed_values e.attrs) (has_allowed_characters kids && has_allowed_characters rest) all in
    let below = and_parts (has_allowed_characters kids) (has_allowed_characters rest) here.1 in
    and_from _ _ (allowed-texts kids below.0) (allowed-texts rest below.1)

parts-spellable : (nodes : Nodes) → texts_allowed nodes ≡ true → each_elem is_spellable_elem nodes ≡ true → has_distinct_names nodes ≡ true
    → is_spellable nodes ≡ true
parts-spellable no_nodes texts all distinct = refl
parts-spellable (text_first s rest) texts all distinct =
    let parts = and_parts (list_all is_allowed s) (texts_allowed rest) texts in
    and_from _ _ parts.0 (parts-spellable rest parts.1 all distinct)
parts-spellable (elem_first e kids rest) texts all distinct =
    let here = and_parts (is_spellable_elem e) (each_elem is_spellable_elem kids && each_elem is_spellable_elem rest) all in
    let below = and_parts (each_elem is_spellable_elem kids) (each_elem is_spellable_elem rest) here.1 in
    let apart = and_parts (is_distinct e.attrs) (has_distinct_names kids && has_distinct_names rest) distinct in
    let others = and_parts (has_distinct_names kids) (has_distinct_names rest) apart.1 in
    let parts = and_parts (texts_allowed kids) (texts_allowed rest) texts in
    and_from _ _ (and_from _ _ here.0 apart.0)
    (and_from _ _ (parts-spellable kids parts.0 below.0 others.0) (parts-spellable rest parts.1 below.1 others.1))

texts-bare : (nodes : Nodes) → texts_allowed (bare_nodes nodes) ≡ texts_allowed nodes
texts-bare no_nodes = refl
texts-bare (text_first s rest) = ap (λ b. list_all is_allowed s && b) (texts-bare rest)
texts-bare (elem_first e kids rest) =
    ap (λ b. b && texts_allowed (bare_nodes rest)) (texts-bare kids) ∙ ap (λ b. texts_allowed kids && b) (texts-bare rest)

-- pictures with an admissible source
good-sources : (rules : Rules) (rule : PlainHostRule) (nodes : Nodes) → HaveSources rules rule nodes → each_elem (has_good_source rules rule) nodes ≡ true
good-sources rules rule no_nodes h = refl
good-sources rules rule (text_first s rest) h = good-sources rules rule rest h.1
good-sources rules rule (elem_first e kids rest) h =
    and_from _ _ h.0 (and_from _ _ (good-sources rules rule kids h.1) (good-sources rules rule rest h.2))

-- ---- all together

each-weaker : (before after : PlainElem → Bool) → ((e : PlainElem) → before e ≡ true → after e ≡ true) → (nodes : Nodes)
    → each_elem before nodes ≡ true → each_elem after nodes ≡ true
each-weaker before after weaker no_nodes all = refl
each-weaker before after weaker (text_first s rest) all = each-weaker before after weaker rest all
each-weaker before after weaker (elem_first e kids rest) all =
    let here = and_parts (before e) (each_elem before kids && each_elem before rest) all in
    let below = and_parts (each_elem before kids) (each_elem before rest) here.1 in
    and_from _ _ (weaker e here.0) (and_from _ _ (each-weaker before after weaker kids below.0) (each-weaker before after weaker rest below.1))

module _ (rules : Rules) (rule : PlainHostRule) (nodes : Nodes) where
  abbrev left : Nodes
  left = with_changed_attributes (kept_attributes rules rule) nodes

  abbrev told : List (Option (List ℕ))
  told = ids_kept rules.id_prefix (ids_of left)

  all-ids : ids_of (with_valid_attributes rules rule nodes) ≡ somes told
  all-ids =
      ids-changed completed_attributes completed-id (with_ids told left) ∙ ids-told told left (kept-length rules.id_prefix (ids_of left))

  prefixed : list_all (has_prefix rules.id_prefix) (ids_of (with_valid_attributes rules rule nodes)) ≡ true
  prefixed = ap (list_all (has_prefix rules.id_prefix)) all-ids ∙ kept-begin rules.id_prefix (ids_of left)

  distinct : are_different (ids_of (with_valid_attributes rules rule nodes)) ≡ true
  distinct = ap are_different all-ids ∙ kept-distinct rules.id_prefix (ids_of left)

  languages : each_elem has_one_language (with_valid_attributes rules rule nodes) ≡ true
  languages =
      each-changed completed_attributes (λ e. true) has_one_language (λ e is. completed-language e) (with_ids told left) (each-passes (with_ids told left))

  left-fine : Readings → each_elem is_allowed_elem nodes ≡ true → each_elem (is_fine rules rule) left ≡ true
  left-fine known may = each-changed (kept_attributes rules rule) is_allowed_elem (is_fine rules rule) (fine-kept known rules rule) nodes may

  told-ids : Readings → begins_an_id rules.id_prefix ≡ true → each_elem is_allowed_elem nodes ≡ true → list_all (passes is_id) told ≡ true
  told-ids known begins may =
      first-passes is_id (map (with_prefix rules.id_prefix) (ids_of left))
      (all-mapped is_id (with_prefix rules.id_prefix) is_id (λ id is. id-prefixed rules.id_prefix id begins is) (ids_of left)
      (valid-ids rules rule left (left-fine known may)))

  fine : Readings → begins_an_id rules.id_prefix ≡ true → each_elem is_allowed_elem nodes ≡ true
      → each_elem (is_fine rules rule) (with_valid_attributes rules rule nodes) ≡ true
  fine known begins may =
      each-changed completed_attributes (is_fine rules rule) (is_fine rules rule) (completed-fine known rules rule) (with_ids told left)
      (each-told (is_fine rules rule) (is_fine rules rule) (id-fine rules rule) told left (told-ids known begins may) (left-fine known may))

  required : Readings → begins_an_id rules.id_prefix ≡ true → each_elem is_allowed_elem nodes ≡ true → each_elem (has_good_source rules rule) nodes ≡ true
      → each_elem has_required (with_valid_attributes rules rule nodes) ≡ true
  required known begins may sources =
      each-changed completed_attributes has_src has_required completed-required (with_ids told left)
      (each-told has_src has_src (λ e ids has all. told-src e (take (length (ids_in e.attrs)) ids) has) told left (told-ids known begins may)
      (each-changed (kept_attributes rules rule) (has_good_source rules rule) has_src (kept-src rules rule) nodes sources))

  pub valid : Readings → begins_an_id rules.id_prefix ≡ true → has_allowed_characters nodes ≡ true → HaveSources rules rule nodes
      → HasValidAttributes rules rule (with_valid_attributes rules rule nodes)
  valid known begins allowed sources =
      let may = allowed-elems nodes allowed in
      record {
        values = each-weaker (is_fine rules rule) (has_valid_values rules rule) (fine-valid rules rule) (with_valid_attributes rules rule nodes) (fine known begins may);
        required = required known begins may (good-sources rules rule nodes sources);
        languages = languages;
        prefixed = prefixed;
        distinct = distinct;
      }

  pub spellable : Readings → begins_an_id rules.id_prefix ≡ true → has_allowed_characters nodes ≡ true
      → has_distinct_names (with_valid_attributes rules rule nodes) ≡ true → is_spellable (with_valid_attributes rules rule nodes) ≡ true
  spellable known begins allowed apart =
      parts-spellable (with_valid_attributes rules rule nodes)
      (unchanged texts_allowed texts-bare rules rule nodes ∙ allowed-texts nodes allowed)
      (each-weaker (is_fine rules rule) is_spellable_elem (fine-spellable rules rule) (with_valid_attributes rules rule nodes)
      (fine known begins (allowed-elems nodes allowed))) apart
