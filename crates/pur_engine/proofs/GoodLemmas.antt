-- The tokens of valid nodes are tags of permitted elements and texts, and each picture among them has a source.
use Rattle.std.proofs.Common.{◌≡◌, ℕ, Bool, true, false, not, ◌&&◌, ◌||◌, cond, List, [], ◌∷◌, ◌++◌, map, Option, Some, None, refl, sym, ap, subst, ◌∙◌, length, codes}
use Rattle.std.specs.Prelude.{nat_lt, is_some}
use Rattle.std.specs.List.{list_all}
use Rattle.std.specs.Option.{option_and_then, option_map, option_map_or}
use Rattle.std.proofs.lemmas.Bool.{and_parts, and_from}
use Rattle.pur_laws.proofs.Lists.{all-append}
use Rattle.pur_names.specs.declared.attributes.Attr.{Attr}
use Rattle.pur_names.specs.declared.attributes.Attr.TheVariants.{Src}
use Rattle.pur_names.specs.declared.elements.Element.{Element}
use Rattle.pur_names.specs.declared.elements.Element.TheVariants.{Img}
use Rattle.pur_names.specs.Attributes.{attr_named}
use Rattle.pur_names.specs.Elements.{element_name, element_named}
use Rattle.pur_names.proofs.AttrLaws.{attr_named-name}
use Rattle.pur_names.proofs.ElementLaws.{element_named-name}
use Rattle.pur_settings.specs.Rules.{Rules, permits_element, permits_found, permits_name, permits_attribute}
use Rattle.pur_uripolicy.specs.Admissible.{has_source, uri_under}
use Rattle.pur_attrlist.specs.Attributes.{Attribute, is_same_text, has_name, value_of}
use Rattle.pur_tokens.specs.Pictures.{has_good_picture, is_good_tag}
use Rattle.pur_tokens.specs.Tokens.{PlainToken, shows_only}
use Rattle.pur_attrlist.proofs.TextLaws.{same_text}
use Rattle.pur_tree.specs.Nodes.{PlainElem, Nodes, no_nodes, text_first, elem_first}
use Rattle.pur_tree.specs.Properties.{Holds, permitted}
use Rattle.pur_tree.specs.Spelling.{Spells, spells_nothing, spells_text, spells_empty, spells_element}
use Rattle.pur_tree.specs.Tokens as flat
use Rattle.pur_uri.specs.Uris.{PlainUri, uri_text}
use Rattle.pur_uripolicy.specs.HostRules.{PlainHostRule}
use Rattle.pur_uripolicy.specs.declared.uses.UriUse.TheVariants.{Embed}
use Rattle.pur_validity.specs.Attributes.{has_required, has_valid_values, is_valid_attribute, is_canonical, each_elem}
use Rattle.pur_wellform.specs.Laws.{as_read}
use Rattle.pur_engine.proofs.SpelledLemmas.{positive}

-- the tokens of nodes pass a test, where each text and each tag does
module _ (test : PlainToken → Bool) where
  abbrev Pass : List flat.Token → Type 0
  Pass tokens = list_all test (map as_read tokens) ≡ true

  pass_append : (a b : List flat.Token) → Pass a → Pass b → Pass (a ++ b)
  pass_append [] b all more = more
  pass_append (t ∷ a) b all more =
      let parts = and_parts (test (as_read t)) (list_all test (map as_read a)) all in
      and_from _ _ parts.0 (pass_append a b parts.1 more)

-- ---- permitted

module _ (rules : Rules) where
  abbrev Shown : List flat.Token → Type 0
  Shown tokens = Pass (shows_only (permits_name rules)) tokens

  name_permitted : (element : Element) → permits_element rules element ≡ true → permits_name rules (element_name element) ≡ true
  name_permitted element is = ap (permits_found rules) (element_named-name element) ∙ is

  pub shown : {n : Nodes} {t : List ℕ} → Spells n t → Holds (permitted (permits_element rules)) tt n → Shown (flat.tokens_of_nodes n)
  shown spells_nothing p = refl
  shown (spells_text {c = c} {s = s} a j r) p = and_from _ _ (positive c s) (shown r p.1)
  shown (spells_empty {e = e} empty a r) p = rw empty (and_from _ _ (name_permitted e.name p.0) (shown r p.2))
  shown (spells_element {e = e} {kids = kids} {rest = rest} other a k r) p =
      rw other (and_from _ _ (name_permitted e.name p.0)
      (pass_append (shows_only (permits_name rules)) (flat.tokens_of_nodes kids) (flat.end_token e.name ∷ flat.tokens_of_nodes rest) (shown k p.1)
      (and_from _ _ (name_permitted e.name p.0) (shown r p.2))))

-- ---- pictures

module _ (rules : Rules) (rule : PlainHostRule) where
  abbrev has_it : Option (List ℕ) → Bool
  has_it found = is_some (option_and_then (uri_under rules rule Embed) found)

  read_source : (value : List ℕ) (o : Option PlainUri) → uri_under rules rule Embed value ≡ o
      → option_map_or (is_same_text value) (option_map uri_text o) false ≡ true → has_it (Some value) ≡ true
  read_source value None e is = absurd (cc)
  read_source value (Some uri) e is = ap is_some e

  source_there : (attrs : List Attribute) → list_all (is_valid_attribute rules rule Img) attrs ≡ true → has_name attrs (codes "src") ≡ true
      → has_it (value_of attrs (codes "src")) ≡ true
  source_there [] all has = absurd (cc)
  source_there (pair ∷ attrs) all has = go (is_same_text (codes "src") pair.0) refl has (source_there attrs)
    where
      parts : (is_valid_attribute rules rule Img pair ≡ true) × (list_all (is_valid_attribute rules rule Img) attrs ≡ true)
      parts = and_parts (is_valid_attribute rules rule Img pair) (list_all (is_valid_attribute rules rule Img) attrs) all

      here : codes "src" ≡ pair.0 → has_it (Some pair.1) ≡ true
      here name =
          let valid : option_map_or (λ attr. permits_attribute rules Img attr && is_canonical rules rule Img attr pair.1) (attr_named (codes "src")) false ≡ true =
          subst (λ n. option_map_or (λ attr. permits_attribute rules Img attr && is_canonical rules rule Img attr pair.1) (attr_named n) false ≡ true) (sym name) parts.0 in
          let both : (permits_attribute rules Img Src && is_canonical rules rule Img Src pair.1) ≡ true =
          sym (ap (λ o. option_map_or (λ attr. permits_attribute rules Img attr && is_canonical rules rule Img attr pair.1) o false) (attr_named-name Src)) ∙ valid in
          read_source pair.1 (uri_under rules rule Embed pair.1) refl (and_parts (permits_attribute rules Img Src) (is_canonical rules rule Img Src pair.1) both).1

      go : (b : Bool) → is_same_text (codes "src") pair.0 ≡ b → (b || has_name attrs (codes "src")) ≡ true
          → (list_all (is_valid_attribute rules rule Img) attrs ≡ true → has_name attrs (codes "src") ≡ true → has_it (value_of attrs (codes "src")) ≡ true)
          → has_it (cond b (Some pair.1) (value_of attrs (codes "src"))) ≡ true
      go true is h rest = here (same_text (codes "src") pair.0 is)
      go false is h rest = rest parts.1 h

  good_tag : (e : PlainElem) → has_valid_values rules rule e ≡ true → has_required e ≡ true → is_good_tag (has_source rules rule) (element_name e.name) e.attrs ≡ true
  good_tag e values required = go e.name e.attrs values required
    where
      go : (name : Element) (attrs : List Attribute) → list_all (is_valid_attribute rules rule name) attrs ≡ true
          → has_required (record { name = name; attrs = attrs }) ≡ true → (not (is_same_text (codes "img") (element_name name)) || has_source rules rule attrs) ≡ true
      go Img attrs values required = source_there attrs values (and_parts (has_name attrs (codes "src")) _ required).0
      go name attrs values required = refl

  abbrev Pictured : List flat.Token → Type 0
  Pictured tokens = Pass (has_good_picture (has_source rules rule)) tokens

  pub pictured : {n : Nodes} {t : List ℕ} → Spells n t → each_elem (has_valid_values rules rule) n ≡ true → each_elem has_required n ≡ true
      → Pictured (flat.tokens_of_nodes n)
  pictured spells_nothing v q = refl
  pictured (spells_text a j r) v q = pictured r v q
  pictured (spells_empty {e = e} {rest = rest} empty a r) v q =
      let vs = and_parts (has_valid_values rules rule e) (each_elem (has_valid_values rules rule) rest) v in
      let qs = and_parts (has_required e) (each_elem has_required rest) q in
      rw empty (and_from _ _ (good_tag e vs.0 qs.0) (pictured r vs.1 qs.1))
  pictured (spells_element {e = e} {kids = kids} {rest = rest} other a k r) v q =
      let vs = and_parts (has_valid_values rules rule e) (each_elem (has_valid_values rules rule) kids && each_elem (has_valid_values rules rule) rest) v in
      let qs = and_parts (has_required e) (each_elem has_required kids && each_elem has_required rest) q in
      let vb = and_parts (each_elem (has_valid_values rules rule) kids) (each_elem (has_valid_values rules rule) rest) vs.1 in
      let qb = and_parts (each_elem has_required kids) (each_elem has_required rest) qs.1 in
      rw other (and_from _ _ (good_tag e vs.0 qs.0)
      (pass_append (has_good_picture (has_source rules rule)) (flat.tokens_of_nodes kids) (flat.end_token e.name ∷ flat.tokens_of_nodes rest) (pictured k vb.0 qb.0)
      (pictured r vb.1 qb.1)))
