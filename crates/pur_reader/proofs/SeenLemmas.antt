-- Ids that are judged behind others.
use Rattle.std.proofs.Common.{◌≡◌, ℕ, Bool, true, false, List, [], ◌∷◌, ◌++◌, refl, sym, ap, ◌∙◌, append_assoc}
use Rattle.std.specs.Prelude.{◌&&◌, ◌||◌, not}
use Rattle.std.specs.List.{list_all, list_any}
use Rattle.std.proofs.lemmas.Bool.{and_from}
use Rattle.pur_attrlist.specs.Attributes.{is_same_text}
use Rattle.pur_tree.specs.Nodes.{PlainElem, Nodes, elem_first}
use Rattle.pur_validity.specs.Attributes.{ids_of, ids_in, has_prefix, are_different}
use Rattle.pur_reader.specs.Private.Judging.{Seen, seen_with, seen_behind, ids_right}

and_assoc : (a b c : Bool) → ((a && b) && c) ≡ (a && (b && c))
and_assoc true b c = refl
and_assoc false b c = refl

-- ids behind ids
pub ids_right-append : (prefix : List ℕ) (seen : Seen) (as' bs : List (List ℕ)) → ids_right prefix seen (as' ++ bs) ≡ (ids_right prefix seen as' && ids_right prefix (seen_behind seen as') bs)
ids_right-append prefix seen [] bs = refl
ids_right-append prefix seen (a ∷ as') bs =
    ap (λ b. (has_prefix prefix a && not (seen a)) && b) (ids_right-append prefix (seen_with a seen) as' bs)
    ∙ sym (and_assoc (has_prefix prefix a && not (seen a)) (ids_right prefix (seen_with a seen) as') (ids_right prefix (seen_behind (seen_with a seen) as') bs))

pub seen_behind-append : (seen : Seen) (as' bs : List (List ℕ)) → seen_behind seen (as' ++ bs) ≡ seen_behind (seen_behind seen as') bs
seen_behind-append seen [] bs = refl
seen_behind-append seen (a ∷ as') bs = seen_behind-append (seen_with a seen) as' bs

-- ids of an element: its own, and those of its children
pub ids-elem : (e : PlainElem) (k n : Nodes) → ids_of (elem_first e k n) ≡ (ids_in e.attrs ++ ids_of k) ++ ids_of n
ids-elem e k n = sym (append_assoc (ids_in e.attrs) (ids_of k) (ids_of n))

-- none of the texts was seen
abbrev none_seen : Seen → List (List ℕ) → Bool
none_seen seen texts = list_all (λ text. not (seen text)) texts

not-or : (a b c d : Bool) → ((not a && not b) && (c && d)) ≡ (not (a || b) && (c && d))
not-or true b c d = refl
not-or false b c d = refl

pass : (seen : Seen) (a : List ℕ) (texts : List (List ℕ)) → none_seen (seen_with a seen) texts ≡ (not (list_any (is_same_text a) texts) && none_seen seen texts)
pass seen a [] = refl
pass seen a (t ∷ texts) = ap (λ b. not (is_same_text a t || seen t) && b) (pass seen a texts)
    ∙ shuffle (is_same_text a t) (seen t) (list_any (is_same_text a) texts) (none_seen seen texts)
  where
    shuffle : (x y z w : Bool) → (not (x || y) && (not z && w)) ≡ (not (x || z) && (not y && w))
    shuffle true y z w = refl
    shuffle false true true w = refl
    shuffle false true false w = refl
    shuffle false false z w = refl

split : (prefix : List ℕ) (seen : Seen) (texts : List (List ℕ)) → ids_right prefix seen texts ≡ (none_seen seen texts && (list_all (has_prefix prefix) texts && are_different texts))
split prefix seen [] = refl
split prefix seen (a ∷ texts) =
    ap (λ b. (has_prefix prefix a && not (seen a)) && b) (split prefix (seen_with a seen) texts ∙ ap (λ b. b && (list_all (has_prefix prefix) texts && are_different texts)) (pass seen a texts))
    ∙ shuffle (has_prefix prefix a) (seen a) (list_any (is_same_text a) texts) (none_seen seen texts) (list_all (has_prefix prefix) texts) (are_different texts)
  where
    shuffle : (p s l n q d : Bool) → ((p && not s) && ((not l && n) && (q && d))) ≡ ((not s && n) && ((p && q) && (not l && d)))
    shuffle true true l n q d = refl
    shuffle false true l n q d = refl
    shuffle true false true true true d = refl
    shuffle true false true true false d = refl
    shuffle true false true false q d = refl
    shuffle true false false n q d = refl
    shuffle false false l true q d = refl
    shuffle false false l false q d = refl

all_unseen : (seen : Seen) (texts : List (List ℕ)) → ((text : List ℕ) → seen text ≡ false) → none_seen seen texts ≡ true
all_unseen seen [] none = refl
all_unseen seen (t ∷ texts) none = and_from _ _ (ap not (none t)) (all_unseen seen texts none)

-- where nothing was seen, ids are right that have the prefix and differ
pub ids_whole : (prefix : List ℕ) (seen : Seen) (texts : List (List ℕ)) → ((text : List ℕ) → seen text ≡ false)
    → ids_right prefix seen texts ≡ (list_all (has_prefix prefix) texts && are_different texts)
ids_whole prefix seen texts none = split prefix seen texts ∙ ap (λ b. b && (list_all (has_prefix prefix) texts && are_different texts)) (all_unseen seen texts none)
