-- The text that nodes are spelled as has allowed characters alone, and no two of its tokens are texts beside each other.
use Rattle.std.proofs.Common.{◌≡◌, ℕ, Bool, true, false, not, ◌&&◌, ◌||◌, List, [], ◌∷◌, ◌++◌, map, refl, sym, ap, ◌∙◌, cond, codes}
use Rattle.std.specs.Prelude.{◌==◌, if◌then◌else◌}
use Rattle.std.specs.List.{list_all}
use Rattle.std.proofs.lemmas.Bool.{and_parts, and_from}
use Rattle.pur_laws.proofs.Lists.{all-append}
use Rattle.pur_text.specs.Characters.{is_allowed}
use Rattle.pur_text.specs.Escapes.{escape, escaped}
use Rattle.pur_names.specs.declared.elements.Element.{Element}
use Rattle.pur_names.specs.Elements.{element_name}
use Rattle.pur_names.specs.Attributes.{all_attrs}
use Rattle.pur_names.proofs.ElementLaws.{each_element}
use Rattle.pur_attrlist.specs.Attributes.{Attribute, is_distinct}
use Rattle.pur_tokens.specs.Joining as read
use Rattle.pur_tokens.specs.Tokens.{PlainToken}
use Rattle.pur_tree.specs.Nodes.{PlainElem, Nodes, no_nodes, text_first, elem_first, starts_with_text}
use Rattle.pur_tree.specs.Spelling.{Spells, spells_nothing, spells_text, spells_empty, spells_element, escape_in_value, escaped_value, attribute_text, attributes_text, start_tag_of, end_tag_of, empty_tag_of, is_attr_name, is_spellable_attribute, are_spellable}
use Rattle.pur_tree.specs.Tokens.{Token, text_token, start_token, end_token, empty_token, tokens_of_nodes, opening_of}
use Rattle.pur_modules.specs.Contents.{is_empty_element}
use Rattle.pur_tree.proofs.AttributeLemmas.{names_pass}

abbrev Allowed : List ℕ → Type 0
Allowed text = list_all is_allowed text ≡ true

-- ---- characters

escape_allowed : (c : ℕ) → is_allowed c ≡ true → Allowed (escape c)
escape_allowed c is = go (c == 0x26) (c == 0x3C) (c == 0x3E)
  where
    go : (a l g : Bool) → Allowed (if a then codes "&amp;" else (if l then codes "&lt;" else (if g then codes "&gt;" else c ∷ [])))
    go true l g = refl
    go false true g = refl
    go false false true = refl
    go false false false = and_from _ _ is refl

value_allowed : (c : ℕ) → is_allowed c ≡ true → Allowed (escape_in_value c)
value_allowed c is = go (c == 0x22)
  where
    go : (q : Bool) → Allowed (if q then codes "&quot;" else escape c)
    go true = refl
    go false = escape_allowed c is

escaped_allowed : (text : List ℕ) → Allowed text → Allowed (escaped text)
unfolding escaped
escaped_allowed [] all = refl
escaped_allowed (c ∷ text) all =
    let parts = and_parts (is_allowed c) (list_all is_allowed text) all in
    all-append is_allowed (escape c) (escaped text) (escape_allowed c parts.0) (escaped_allowed text parts.1)

values_allowed : (text : List ℕ) → Allowed text → Allowed (escaped_value text)
unfolding escaped_value
values_allowed [] all = refl
values_allowed (c ∷ text) all =
    let parts = and_parts (is_allowed c) (list_all is_allowed text) all in
    all-append is_allowed (escape_in_value c) (escaped_value text) (value_allowed c parts.0) (values_allowed text parts.1)

name_allowed : (element : Element) → Allowed (element_name element)
name_allowed element = each_element (λ e. list_all is_allowed (element_name e)) refl element

attribute_allowed : (pair : Attribute) → is_spellable_attribute pair ≡ true → Allowed (attribute_text pair)
attribute_allowed pair is =
    let parts = and_parts (is_attr_name pair.0) (list_all is_allowed pair.1) is in
    all-append is_allowed pair.0 (0x3D ∷ 0x22 ∷ (escaped_value pair.1 ++ (0x22 ∷ []))) (names_pass (list_all is_allowed) all_attrs pair.0 refl parts.0)
    (all-append is_allowed (escaped_value pair.1) (0x22 ∷ []) (values_allowed pair.1 parts.1) refl)

attributes_allowed : (pairs : List Attribute) → list_all is_spellable_attribute pairs ≡ true → Allowed (attributes_text pairs)
attributes_allowed [] all = refl
attributes_allowed (pair ∷ pairs) all =
    let parts = and_parts (is_spellable_attribute pair) (list_all is_spellable_attribute pairs) all in
    all-append is_allowed (attribute_text pair) (attributes_text pairs) (attribute_allowed pair parts.0) (attributes_allowed pairs parts.1)

tag_allowed : (e : PlainElem) (end : List ℕ) → are_spellable e.attrs ≡ true → Allowed end → Allowed (codes "<" ++ (element_name e.name ++ (attributes_text e.attrs ++ end)))
tag_allowed e end are all =
    all-append is_allowed (element_name e.name) (attributes_text e.attrs ++ end) (name_allowed e.name)
    (all-append is_allowed (attributes_text e.attrs) end (attributes_allowed e.attrs (and_parts _ (is_distinct e.attrs) are).0) all)

end_allowed : (e : Element) → Allowed (end_tag_of e)
end_allowed e = all-append is_allowed (element_name e) (codes ">") (name_allowed e) refl

pub spelling_allowed : {n : Nodes} {t : List ℕ} → Spells n t → Allowed t
spelling_allowed spells_nothing = refl
spelling_allowed (spells_text {c = c} {s = s} {t = t} a j r) = all-append is_allowed (escaped (c ∷ s)) t (escaped_allowed (c ∷ s) a) (spelling_allowed r)
spelling_allowed (spells_empty {e = e} {t = t} empty a r) = all-append is_allowed (empty_tag_of e) t (tag_allowed e (codes " />") a refl) (spelling_allowed r)
spelling_allowed (spells_element {e = e} {u = u} {t = t} other a k r) =
    all-append is_allowed (start_tag_of e) (u ++ (end_tag_of e.name ++ t)) (tag_allowed e (codes ">") a refl)
    (all-append is_allowed u (end_tag_of e.name ++ t) (spelling_allowed k)
    (all-append is_allowed (end_tag_of e.name) t (end_allowed e.name) (spelling_allowed r)))

-- ---- neighbours

-- a token that is a text
abbrev pub is_text : Token → Bool
is_text (text_token s) = true
is_text token = false

-- a list of tokens, each in its place in another notation, in which texts are texts
module _ (image : Token → PlainToken) (alike : (token : Token) → read.is_text (image token) ≡ is_text token) where
  abbrev Apart : List Token → Type 0
  Apart tokens = read.has_no_neighbours (map image tokens) ≡ true

  behind_tag : (token : Token) (tokens : List Token) → is_text token ≡ false → Apart tokens → Apart (token ∷ tokens)
  behind_tag token tokens other all = rw (alike token, other) all

  apart_append : (a b : List Token) (tag : Token) → is_text tag ≡ false → Apart a → Apart b → Apart (a ++ (tag ∷ b))
  apart_append [] b tag other all more = behind_tag tag b other more
  apart_append (t ∷ []) b tag other all more = rw (alike t, alike tag, other) (go (is_text t))
    where
      go : (x : Bool) → (not (x && false) && read.has_no_neighbours (map image b)) ≡ true
      go true = more
      go false = more
  apart_append (t ∷ u ∷ a) b tag other all more =
      let parts = and_parts (not (read.is_text (image t) && read.is_text (image u))) (read.has_no_neighbours (map image (u ∷ a))) all in
      and_from _ _ parts.0 (apart_append (u ∷ a) b tag other parts.1 more)

  no_text_first : (n : Nodes) → starts_with_text n ≡ false → read.begins_with_text (map image (tokens_of_nodes n)) ≡ false
  no_text_first no_nodes is = refl
  no_text_first (text_first s n) is = absurd (cc)
  no_text_first (elem_first e kids n) is = alike (opening_of e) ∙ tag (is_empty_element e.name)
    where
      tag : (b : Bool) → is_text (cond b (empty_token e) (start_token e)) ≡ false
      tag true = refl
      tag false = refl

  pub apart : {n : Nodes} {t : List ℕ} → Spells n t → Apart (tokens_of_nodes n)
  apart spells_nothing = refl
  apart (spells_text {c = c} {s = s} {rest = rest} a j r) = rw (alike (text_token (c ∷ s)), no_text_first rest j) (apart r)
  apart (spells_empty {e = e} {rest = rest} empty a r) = rw empty (behind_tag (empty_token e) (tokens_of_nodes rest) refl (apart r))
  apart (spells_element {e = e} {kids = kids} {rest = rest} other a k r) =
      rw other (behind_tag (start_token e) (tokens_of_nodes kids ++ (end_token e.name ∷ tokens_of_nodes rest)) refl
      (apart_append (tokens_of_nodes kids) (tokens_of_nodes rest) (end_token e.name) refl (apart k) (apart r)))
