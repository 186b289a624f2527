-- Tokens that were written, and the text that they are spelled as.
use Rattle.std.proofs.Common.{◌≡◌, ℕ, Bool, true, false, List, [], ◌∷◌, ◌++◌, refl, sym, ap, subst, ◌∙◌, append_assoc, append-nil, arith}
use Rattle.std.specs.Prelude.{◌&&◌, ◌||◌, not}
use Rattle.std.specs.List.{list_all}
use lib.Utf8.{scalar, scalars}
use Rattle.std.proofs.lemmas.Bool.{and_parts, and_from}
use Rattle.std.proofs.lemmas.Bool.Decides.{nat_tests}
use Rattle.std.proofs.lemmas.Grind.{flat_map-append}
use Rattle.pur_laws.proofs.Lists.{all-append, all-parts}
use Rattle.pur_names.specs.declared.elements.Element.{Element}
use Rattle.pur_names.specs.Elements.{element_name}
use Rattle.pur_names.specs.Attributes.{attr_name, all_attrs}
use Rattle.pur_names.proofs.ElementLaws.{each_element}
use Rattle.pur_names.proofs.AttrLaws.{each_attr}
use Rattle.pur_modules.specs.Contents.{is_empty_element}
use Rattle.pur_text.specs.Characters.{is_allowed}
use Rattle.pur_text.specs.Escapes.{escape, escaped}
use Rattle.pur_attrlist.specs.Attributes.{Attribute, is_distinct}
use Rattle.pur_tree.specs.Building.{Building, written_of, opened_of}
use Rattle.pur_tree.specs.Nodes.{PlainElem, Nodes, no_nodes, text_first, elem_first, is_sound, is_joined, has_no_nodes}
use Rattle.pur_tree.specs.Spelling.{escaped_value, attribute_text, attributes_text, is_attr_name, is_spellable_attribute, are_spellable, is_spellable, spelling_of, start_tag_of, end_tag_of, empty_tag_of, Spells, spells_nothing, spells_text, spells_empty, spells_element}
use Rattle.pur_tree.specs.Tokens.{Token, text_token, start_token, end_token, empty_token, tokens_of_nodes, joined, join_token}
use Rattle.pur_tree.proofs.SpellingLemmas.{Spells-spelling}
use Rattle.pur_tree.proofs.TokensLemmas.{none_of}
use Rattle.pur_reader.proofs.CharacterLemmas.{some_named}
use Rattle.pur_reader.proofs.ReferenceLemmas.{all_allowed}
use Rattle.pur_reader.specs.Private.Escaping.{written_where}
use Rattle.pur_reader.specs.Private.Reading.{token_text, tokens_text, is_spellable_token, Left, HasRead}

pub tokens_text-append : (as' bs : List Token) → tokens_text (as' ++ bs) ≡ tokens_text as' ++ tokens_text bs
tokens_text-append [] bs = refl
tokens_text-append (t ∷ as') bs =
    ap (λ x. token_text t ++ x) (tokens_text-append as' bs) ∙ sym (append_assoc (token_text t) (tokens_text as') (tokens_text bs))

text-join_token : (t : Token) (ts : List Token) → tokens_text (join_token t ts) ≡ token_text t ++ tokens_text ts
unfolding escaped
text-join_token (text_token s) [] = refl
text-join_token (text_token s) (text_token u ∷ ts) = ap (λ x. x ++ tokens_text ts) (flat_map-append escape s u) ∙ append_assoc (escaped s) (escaped u) (tokens_text ts)
text-join_token (text_token s) (start_token e ∷ ts) = refl
text-join_token (text_token s) (end_token e ∷ ts) = refl
text-join_token (text_token s) (empty_token e ∷ ts) = refl
text-join_token (start_token e) ts = refl
text-join_token (end_token e) ts = refl
text-join_token (empty_token e) ts = refl

text-joined : (ts : List Token) → tokens_text (joined ts) ≡ tokens_text ts
text-joined [] = refl
text-joined (t ∷ ts) = text-join_token t (joined ts) ∙ ap (λ x. token_text t ++ x) (text-joined ts)

good-join_token : (t : Token) (ts : List Token) → is_spellable_token t ≡ true → list_all is_spellable_token ts ≡ true → list_all is_spellable_token (join_token t ts) ≡ true
good-join_token (text_token s) [] a b = and_from _ _ a b
good-join_token (text_token s) (text_token u ∷ ts) a b =
    let both = and_parts (list_all is_allowed u) (list_all is_spellable_token ts) b in
    and_from _ _ (all-append is_allowed s u a both.0) both.1
good-join_token (text_token s) (start_token e ∷ ts) a b = and_from _ _ a b
good-join_token (text_token s) (end_token e ∷ ts) a b = and_from _ _ a b
good-join_token (text_token s) (empty_token e ∷ ts) a b = and_from _ _ a b
good-join_token (start_token e) ts a b = and_from _ _ a b
good-join_token (end_token e) ts a b = and_from _ _ a b
good-join_token (empty_token e) ts a b = and_from _ _ a b

good-joined : (ts : List Token) → list_all is_spellable_token ts ≡ true → list_all is_spellable_token (joined ts) ≡ true
good-joined [] all = refl
good-joined (t ∷ ts) all =
    let both = and_parts (is_spellable_token t) (list_all is_spellable_token ts) all in
    good-join_token t (joined ts) both.0 (good-joined ts both.1)

-- a token was read
pub token_read : (old new : Building) (t : Token) (before behind : List ℕ) → written_of new ≡ written_of old ++ t ∷ [] → is_spellable_token t ≡ true
    → before ≡ token_text t ++ behind → (Left (opened_of old) before → Left (opened_of new) behind) → HasRead old new before behind
token_read old new t before behind e good is left = record {
  good = λ all. ap (list_all is_spellable_token) e ∙ all-append is_spellable_token (written_of old) (t ∷ []) all (and_from _ _ good refl);
  is = ap (λ x. tokens_text (written_of old) ++ x) is ∙ sym (append_assoc (tokens_text (written_of old)) (token_text t) behind)
      ∙ ap (λ x. (tokens_text (written_of old) ++ x) ++ behind) (sym (append-nil (token_text t)))
      ∙ ap (λ x. x ++ behind) (sym (tokens_text-append (written_of old) (t ∷ []))) ∙ ap (λ ts. tokens_text ts ++ behind) (sym e);
  left = left;
}

-- a text was read, which may join the one before it
pub text_read : (old new : Building) (s run behind : List ℕ) → written_of new ≡ joined (written_of old ++ text_token s ∷ []) → list_all is_allowed s ≡ true
    → written_where false s ≡ run → (Left (opened_of old) (run ++ behind) → Left (opened_of new) behind) → HasRead old new (run ++ behind) behind
unfolding escaped
text_read old new s run behind e good is left =
    let ts = written_of old ++ text_token s ∷ [] in
    record {
      good = λ all. ap (list_all is_spellable_token) e ∙ good-joined ts (all-append is_spellable_token (written_of old) (text_token s ∷ []) all (and_from _ _ good refl));
      is = ap (λ x. tokens_text (written_of old) ++ (x ++ behind)) (sym is) ∙ sym (append_assoc (tokens_text (written_of old)) (escaped s) behind)
          ∙ ap (λ x. (tokens_text (written_of old) ++ x) ++ behind) (sym (append-nil (escaped s)))
          ∙ ap (λ x. x ++ behind) (sym (tokens_text-append (written_of old) (text_token s ∷ []))) ∙ ap (λ x. x ++ behind) (sym (text-joined ts))
          ∙ ap (λ ts. tokens_text ts ++ behind) (sym e);
      left = left;
    }

-- nothing was read
pub nothing_read : (b : Building) (run behind : List ℕ) → run ≡ [] → HasRead b b (run ++ behind) behind
nothing_read b run behind e = record {
  good = λ all. all;
  is = ap (λ r. tokens_text (written_of b) ++ (r ++ behind)) e;
  left = λ left. subst (λ r. Left (opened_of b) (r ++ behind)) e left;
}

-- ---- nodes of what was read

text-tokens : (n : Nodes) → is_sound n ≡ true → tokens_text (tokens_of_nodes n) ≡ spelling_of n
text-tokens no_nodes s = refl
text-tokens (text_first t n) s = ap (λ x. escaped t ++ x) (text-tokens n (and_parts _ (is_sound n) s).1)
text-tokens (elem_first e k n) s =
    go (is_empty_element e.name) refl (text-tokens n (and_parts _ _ (and_parts _ _ s).1).1) (text-tokens k (and_parts _ _ (and_parts _ _ s).1).0)
  where
    go : (b : Bool) → is_empty_element e.name ≡ b → tokens_text (tokens_of_nodes n) ≡ spelling_of n → tokens_text (tokens_of_nodes k) ≡ spelling_of k
        → tokens_text (tokens_of_nodes (elem_first e k n)) ≡ spelling_of (elem_first e k n)
    go true h r q =
        let w = (and_parts (not (is_empty_element e.name) || has_no_nodes k) (is_sound k && is_sound n) s).0 in
        let kn : k ≡ no_nodes = none_of k (rw h at w) in
        rw (kn, h) (ap (λ x. empty_tag_of e ++ x) r)
    go false h r q =
        rw h (ap (λ x. start_tag_of e ++ x)
        (tokens_text-append (tokens_of_nodes k) (end_token e.name ∷ tokens_of_nodes n)
        ∙ ap (λ x. x ++ (end_tag_of e.name ++ tokens_text (tokens_of_nodes n))) q ∙ ap (λ x. spelling_of k ++ (end_tag_of e.name ++ x)) r))

good-tokens : (n : Nodes) → is_sound n ≡ true → list_all is_spellable_token (tokens_of_nodes n) ≡ true → is_spellable n ≡ true
good-tokens no_nodes s all = refl
good-tokens (text_first t n) s all =
    let both = and_parts (list_all is_allowed t) (list_all is_spellable_token (tokens_of_nodes n)) all in
    and_from _ _ both.0 (good-tokens n (and_parts _ (is_sound n) s).1 both.1)
good-tokens (elem_first e k n) s all =
    go (is_empty_element e.name) refl (good-tokens n (and_parts _ _ (and_parts _ _ s).1).1) (good-tokens k (and_parts _ _ (and_parts _ _ s).1).0) all
  where
    go : (b : Bool) → is_empty_element e.name ≡ b → (list_all is_spellable_token (tokens_of_nodes n) ≡ true → is_spellable n ≡ true)
        → (list_all is_spellable_token (tokens_of_nodes k) ≡ true → is_spellable k ≡ true)
        → list_all is_spellable_token (tokens_of_nodes (elem_first e k n)) ≡ true → is_spellable (elem_first e k n) ≡ true
    go true h r q all =
        let w = (and_parts (not (is_empty_element e.name) || has_no_nodes k) (is_sound k && is_sound n) s).0 in
        let kn : k ≡ no_nodes = none_of k (rw h at w) in
        let a : (are_spellable e.attrs && list_all is_spellable_token (tokens_of_nodes n)) ≡ true = rw (kn, h) at all in
        let both = and_parts (are_spellable e.attrs) (list_all is_spellable_token (tokens_of_nodes n)) a in
        rw kn (and_from _ _ both.0 (r both.1))
    go false h r q all =
        let a : (are_spellable e.attrs && list_all is_spellable_token (tokens_of_nodes k ++ (end_token e.name ∷ tokens_of_nodes n))) ≡ true = rw h at all in
        let both = and_parts (are_spellable e.attrs) _ a in
        let parts = all-parts is_spellable_token (tokens_of_nodes k) (end_token e.name ∷ tokens_of_nodes n) both.1 in
        and_from _ _ both.0 (and_from _ _ (q parts.0) (r parts.1))

-- where the tokens of nodes are spelled so, the nodes are
pub nodes_read : (n : Nodes) (ts : List Token) (t : List ℕ) → is_sound n ≡ true → is_joined n ≡ true → tokens_of_nodes n ≡ ts → list_all is_spellable_token ts ≡ true
    → tokens_text ts ≡ t → Spells n t
nodes_read n ts t sound joins e good is =
    subst (Spells n) (sym (text-tokens n sound) ∙ ap tokens_text e ∙ is)
    (Spells-spelling n sound joins (good-tokens n sound (ap (list_all is_spellable_token) e ∙ good)))

-- ---- spelled characters are allowed

name_allowed : (e : Element) → list_all is_allowed (element_name e) ≡ true
name_allowed e = each_element (λ d. list_all is_allowed (element_name d)) refl e

attr_name_allowed : (name : List ℕ) → is_attr_name name ≡ true → list_all is_allowed name ≡ true
attr_name_allowed name is = some_named all_attrs name (list_all is_allowed name ≡ true)
    (λ a same. subst (λ n. list_all is_allowed n ≡ true) same (each_attr (λ d. list_all is_allowed (attr_name d)) refl a)) is

attributes_allowed : (pairs : List Attribute) → list_all is_spellable_attribute pairs ≡ true → list_all is_allowed (attributes_text pairs) ≡ true
unfolding escaped_value
attributes_allowed [] all = refl
attributes_allowed (pair ∷ pairs) all =
    let both = and_parts (is_spellable_attribute pair) (list_all is_spellable_attribute pairs) all in
    let one = and_parts (is_attr_name pair.0) (list_all is_allowed pair.1) both.0 in
    all-append is_allowed (attribute_text pair) (attributes_text pairs)
    (all-append is_allowed pair.0 (61 ∷ 34 ∷ (escaped_value pair.1 ++ 34 ∷ [])) (attr_name_allowed pair.0 one.0)
    (all-append is_allowed (escaped_value pair.1) (34 ∷ []) (all_allowed true pair.1 one.1) refl))
    (attributes_allowed pairs both.1)

tag_allowed : (e : PlainElem) (end : List ℕ) → are_spellable e.attrs ≡ true → list_all is_allowed end ≡ true → list_all is_allowed (60 ∷ (element_name e.name ++ (attributes_text e.attrs ++ end))) ≡ true
tag_allowed e end good ends =
    all-append is_allowed (element_name e.name) (attributes_text e.attrs ++ end) (name_allowed e.name)
    (all-append is_allowed (attributes_text e.attrs) end (attributes_allowed e.attrs (and_parts (list_all is_spellable_attribute e.attrs) (is_distinct e.attrs) good).0) ends)

spelled_allowed : {n : Nodes} {t : List ℕ} → Spells n t → list_all is_allowed t ≡ true
unfolding escaped
spelled_allowed spells_nothing = refl
spelled_allowed (spells_text {c} {s} {rest} {t} plain alone more) = all-append is_allowed (escaped (c ∷ s)) t (all_allowed false (c ∷ s) plain) (spelled_allowed more)
spelled_allowed (spells_empty {e} {rest} {t} empty good more) = all-append is_allowed (empty_tag_of e) t (tag_allowed e (32 ∷ 47 ∷ 62 ∷ []) good refl) (spelled_allowed more)
spelled_allowed (spells_element {e} {kids} {rest} {u} {t} full good inner more) =
    all-append is_allowed (start_tag_of e) (u ++ (end_tag_of e.name ++ t)) (tag_allowed e (62 ∷ []) good refl)
    (all-append is_allowed u (end_tag_of e.name ++ t) (spelled_allowed inner)
    (all-append is_allowed (end_tag_of e.name) t (all-append is_allowed (element_name e.name) (62 ∷ []) (name_allowed e.name) refl) (spelled_allowed more)))

allowed_scalar : (c : ℕ) → is_allowed c ≡ true → scalar c ≡ true
allowed_scalar c is = grind (arith, nat_tests)

all_scalars : (t : List ℕ) → list_all is_allowed t ≡ true → scalars t ≡ true
all_scalars [] all = refl
all_scalars (c ∷ t) all =
    let both = and_parts (is_allowed c) (list_all is_allowed t) all in
    and_from _ _ (allowed_scalar c both.0) (all_scalars t both.1)

-- so a spelling has an encoding
pub spelled_scalars : {n : Nodes} {t : List ℕ} → Spells n t → scalars t ≡ true
spelled_scalars {n} {t} spells = all_scalars t (spelled_allowed spells)
