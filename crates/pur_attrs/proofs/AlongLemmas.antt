-- Nodes gone through in document order become what they become as a whole.
use Rattle.std.proofs.Common.{◌≡◌, ℕ, suc, Bool, true, false, ◌||◌, cond, List, [], ◌∷◌, ◌++◌, length, take, drop, map, Option, Some, None, String, refl, sym, ap, ◌∙◌}
use Rattle.std.specs.BTreeSet.{BTreeSet}
use Rattle.std.specs.List.{list_any}
use Rattle.std.specs.declared.alloc.Global.{Global}
use Rattle.std.proofs.lemmas.List.{map-append, length-map}
use Rattle.std.proofs.Math.Seq.{take-append_seam, drop-append_seam}
use Rattle.pur_settings.specs.Rules.{Rules}
use Rattle.pur_attrlist.specs.Attributes.{Attribute, is_same_text}
use Rattle.pur_attrlist.specs.Texts.{text_of}
use Rattle.pur_tree.specs.Nodes.{PlainElem, Nodes, elem_first, plain_elem}
use Rattle.pur_uripolicy.specs.HostRules.{PlainHostRule}
use Rattle.pur_validity.specs.Attributes.{ids_in, ids_of}
use Rattle.pur_attrs.specs.Attributes.{with_changed_attributes, with_valid_attributes}
use Rattle.pur_attrs.specs.Ids.{with_prefix, unless_same, first_of_same, with_id, with_ids}
use Rattle.pur_attrs.specs.Steps.{kept_attributes, completed_attributes}
use Rattle.pur_attrs.specs.Private.Along.{Seen, seen_in, seen_with, seen_behind, told_behind, prefixed_ids, attributes_behind, ids_put, valid_behind}

-- ---- one list of ids, told with what was seen

abbrev unless_seen : Seen → Option (List ℕ) → Option (List ℕ)
unless_seen seen None = None
unless_seen seen (Some id) = cond (seen id) None (Some id)

unless_more : (seen : Seen) (id : List ℕ) (one : Option (List ℕ)) → unless_seen (seen_with id seen) one ≡ unless_seen seen (unless_same id one)
unless_more seen id None = refl
unless_more seen id (Some other) = go (is_same_text id other)
  where
    go : (b : Bool) → cond (b || seen other) None (Some other) ≡ unless_seen seen (cond b None (Some other))
    go true = refl
    go false = refl

all-more : (seen : Seen) (id : List ℕ) (told : List (Option (List ℕ)))
    → map (unless_seen (seen_with id seen)) told ≡ map (unless_seen seen) (map (unless_same id) told)
all-more seen id [] = refl
all-more seen id (one ∷ told) =
    ap (λ o. o ∷ map (unless_seen (seen_with id seen)) told) (unless_more seen id one)
    ∙ ap (λ l. unless_seen seen (unless_same id one) ∷ l) (all-more seen id told)

told-first : (seen : Seen) (ids : List (List ℕ)) → told_behind seen ids ≡ map (unless_seen seen) (first_of_same ids)
told-first seen [] = refl
told-first seen (id ∷ ids) =
    ap (λ l. cond (seen id) None (Some id) ∷ l) (told-first (seen_with id seen) ids ∙ all-more seen id (first_of_same ids))

abbrev nothing : Seen
nothing = λ text. false

none-seen : (told : List (Option (List ℕ))) → map (unless_seen nothing) told ≡ told
none-seen [] = refl
none-seen (None ∷ told) = ap (λ l. None ∷ l) (none-seen told)
none-seen (Some id ∷ told) = ap (λ l. Some id ∷ l) (none-seen told)

-- nothing was seen where the set is empty
pub unseen : (set : BTreeSet (String Global)) → set.keys ≡ [] → seen_in set ≡ nothing
unseen set empty =
    let among : List (String Global) → Seen = λ keys text. list_any (λ key. is_same_text text (text_of key)) keys in
    ap among empty

-- where nothing was seen, all become what they become as a whole
pub whole : (rules : Rules) (rule : PlainHostRule) (nodes : Nodes) → valid_behind rules rule nothing nodes ≡ with_valid_attributes rules rule nodes
whole rules rule nodes =
    let left = with_changed_attributes (kept_attributes rules rule) nodes in
    ap (λ told. with_changed_attributes completed_attributes (with_ids told left))
    (told-first nothing (ids_put rules rule nodes) ∙ none-seen (first_of_same (ids_put rules rule nodes)))

-- ---- ids in front, and ids behind

pub told-append : (seen : Seen) (ids more : List (List ℕ)) → told_behind seen (ids ++ more) ≡ told_behind seen ids ++ told_behind (seen_behind seen ids) more
told-append seen [] more = refl
told-append seen (id ∷ ids) more = ap (λ l. cond (seen id) None (Some id) ∷ l) (told-append (seen_with id seen) ids more)

pub seen-append : (seen : Seen) (ids more : List (List ℕ)) → seen_behind seen (ids ++ more) ≡ seen_behind (seen_behind seen ids) more
seen-append seen [] more = refl
seen-append seen (id ∷ ids) more = seen-append (seen_with id seen) ids more

told-length : (seen : Seen) (ids : List (List ℕ)) → length (told_behind seen ids) ≡ length ids
told-length seen [] = refl
told-length seen (id ∷ ids) = ap suc (told-length (seen_with id seen) ids)

-- ---- an element in front

put-first : (rules : Rules) (rule : PlainHostRule) (e : PlainElem) (kids rest : Nodes)
    → ids_put rules rule (elem_first e kids rest)
    ≡ prefixed_ids rules.id_prefix (kept_attributes rules rule e.name e.attrs) ++ (ids_put rules rule kids ++ ids_put rules rule rest)
put-first rules rule e kids rest =
    let put = with_prefix rules.id_prefix in
    let own = ids_in (kept_attributes rules rule e.name e.attrs) in
    let below = ids_of (with_changed_attributes (kept_attributes rules rule) kids) in
    let after = ids_of (with_changed_attributes (kept_attributes rules rule) rest) in
    map-append put own (below ++ after) ∙ ap (λ l. map put own ++ l) (map-append put below after)

-- what is told of an element, of its children and of what is behind it
module _ (own below after : List (List ℕ)) (one two three : List (Option (List ℕ))) (a : length one ≡ length own) (b : length two ≡ length below) where
  own-part : take (length own) (one ++ (two ++ three)) ≡ one
  own-part = ap (λ n. take n (one ++ (two ++ three))) (sym a) ∙ take-append_seam one (two ++ three)

  behind-part : drop (length own) (one ++ (two ++ three)) ≡ two ++ three
  behind-part = ap (λ n. drop n (one ++ (two ++ three))) (sym a) ∙ drop-append_seam one (two ++ three)

  below-part : take (length below) (drop (length own) (one ++ (two ++ three))) ≡ two
  below-part = ap (take (length below)) behind-part ∙ ap (λ n. take n (two ++ three)) (sym b) ∙ take-append_seam two three

  after-part : drop (length below) (drop (length own) (one ++ (two ++ three))) ≡ three
  after-part = ap (drop (length below)) behind-part ∙ ap (λ n. drop n (two ++ three)) (sym b) ∙ drop-append_seam two three

module _ (rules : Rules) (rule : PlainHostRule) (seen : Seen) (e : PlainElem) (kids rest : Nodes) where
  abbrev own : List (List ℕ)
  own = prefixed_ids rules.id_prefix (kept_attributes rules rule e.name e.attrs)

  abbrev seen_inside : Seen
  seen_inside = seen_behind seen own

  abbrev seen_after : Seen
  seen_after = seen_behind seen_inside (ids_put rules rule kids)

  told-parts : told_behind seen (ids_put rules rule (elem_first e kids rest))
      ≡ told_behind seen own ++ (told_behind seen_inside (ids_put rules rule kids) ++ told_behind seen_after (ids_put rules rule rest))
  told-parts =
      ap (told_behind seen) (put-first rules rule e kids rest)
      ∙ told-append seen own (ids_put rules rule kids ++ ids_put rules rule rest)
      ∙ ap (λ l. told_behind seen own ++ l) (told-append seen_inside (ids_put rules rule kids) (ids_put rules rule rest))

  pub valid-first : valid_behind rules rule seen (elem_first e kids rest)
      ≡ elem_first (plain_elem e.name (attributes_behind rules rule seen e.name e.attrs)) (valid_behind rules rule seen_inside kids) (valid_behind rules rule seen_after rest)
  valid-first =
      let put = with_prefix rules.id_prefix in
      let kept = kept_attributes rules rule e.name e.attrs in
      let left_kids = with_changed_attributes (kept_attributes rules rule) kids in
      let left_rest = with_changed_attributes (kept_attributes rules rule) rest in
      let one = told_behind seen own in
      let two = told_behind seen_inside (ids_put rules rule kids) in
      let three = told_behind seen_after (ids_put rules rule rest) in
      let a : length one ≡ length (ids_in kept) = told-length seen own ∙ length-map (ids_in kept) put in
      let b : length two ≡ length (ids_of left_kids) = told-length seen_inside (ids_put rules rule kids) ∙ length-map (ids_of left_kids) put in
      let all = one ++ (two ++ three) in
      let made : List (Option (List ℕ)) → List (Option (List ℕ)) → List (Option (List ℕ)) → Nodes =
      λ x y z. elem_first (plain_elem e.name (completed_attributes e.name (with_id x kept))) (with_changed_attributes completed_attributes (with_ids y left_kids)) (with_changed_attributes completed_attributes (with_ids z left_rest)) in
      let cut : List (Option (List ℕ)) → Nodes =
      λ told. made (take (length (ids_in kept)) told) (take (length (ids_of left_kids)) (drop (length (ids_in kept)) told)) (drop (length (ids_of left_kids)) (drop (length (ids_in kept)) told)) in
      ap cut told-parts
      ∙ ap (λ x. made x (take (length (ids_of left_kids)) (drop (length (ids_in kept)) all)) (drop (length (ids_of left_kids)) (drop (length (ids_in kept)) all)))
      (own-part (ids_in kept) (ids_of left_kids) [] one two three a b)
      ∙ ap (λ y. made one y (drop (length (ids_of left_kids)) (drop (length (ids_in kept)) all))) (below-part (ids_in kept) (ids_of left_kids) [] one two three a b)
      ∙ ap (made one two) (after-part (ids_in kept) (ids_of left_kids) [] one two three a b)

  pub seen-first : seen_behind seen (ids_put rules rule (elem_first e kids rest)) ≡ seen_behind seen_after (ids_put rules rule rest)
  seen-first =
      ap (seen_behind seen) (put-first rules rule e kids rest)
      ∙ seen-append seen own (ids_put rules rule kids ++ ids_put rules rule rest)
      ∙ seen-append seen_inside (ids_put rules rule kids) (ids_put rules rule rest)

  -- an element that was changed where it stands, behind what was seen
  module _ (made : List Attribute) (below : Nodes) (after : Seen) (last : (id : List ℕ) → after id ≡ seen_after id) where
    pub valid-changed : made ≡ attributes_behind rules rule seen e.name e.attrs → below ≡ valid_behind rules rule seen_inside kids
        → elem_first (plain_elem e.name made) below (valid_behind rules rule after rest) ≡ valid_behind rules rule seen (elem_first e kids rest)
    valid-changed own_made all_below =
        ap (λ attrs. elem_first (plain_elem e.name attrs) below (valid_behind rules rule after rest)) own_made
        ∙ ap (λ nodes. elem_first (plain_elem e.name (attributes_behind rules rule seen e.name e.attrs)) nodes (valid_behind rules rule after rest)) all_below
        ∙ ap (λ (s : Seen). elem_first (plain_elem e.name (attributes_behind rules rule seen e.name e.attrs)) (valid_behind rules rule seen_inside kids) (valid_behind rules rule s rest)) (λ i id. last id i)
        ∙ sym valid-first

    pub seen-changed : (id : List ℕ) → seen_behind after (ids_put rules rule rest) id ≡ seen_behind seen (ids_put rules rule (elem_first e kids rest)) id
    seen-changed id =
        ap (λ (s : Seen). seen_behind s (ids_put rules rule rest) id) (λ i id. last id i)
        ∙ ap (λ (s : Seen). s id) (sym seen-first)
