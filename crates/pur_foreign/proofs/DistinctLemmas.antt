-- Tags in which no attribute's name comes twice leave such tags alone.
use Rattle.std.proofs.Common.{◌≡◌, ℕ, true, List, [], ◌∷◌, flat_map, Option, None, Some, refl}
use Rattle.std.specs.Prelude.{◌&&◌, codes}
use Rattle.std.specs.List.{list_all}
use Rattle.std.proofs.lemmas.Bool.{and_from, and_parts}
use Rattle.pur_laws.proofs.Truth.{either}
use Rattle.pur_laws.proofs.Lists.{all-append}
use Rattle.pur_names.specs.Elements.{element_name, element_named}
use Rattle.pur_names.specs.declared.elements.Element.{Element}
use Rattle.pur_names.specs.declared.elements.Element.TheVariants.{Font}
use Rattle.pur_modules.specs.declared.kinds.Doctype.{Doctype}
use Rattle.pur_modules.specs.declared.kinds.Doctype.TheVariants.{Strict, Transitional}
use Rattle.pur_attrlist.specs.Attributes.{Attribute, is_distinct, without}
use Rattle.pur_tokens.specs.Distinct.{shows_distinct}
use Rattle.pur_tokens.specs.Tokens.{PlainToken, text_token, start_token, end_token, empty_token, hidden_token, comment_token}
use Rattle.pur_attrlist.proofs.AttributeLaws.{is_distinct-without}
use Rattle.pur_attrlist.proofs.DistinctLaws.{is_distinct-with_style}
use Rattle.pur_tokens.proofs.JoiningLaws.{all-joined}
use Rattle.pur_settings.specs.Rules.{Rules, permits_element}
use Rattle.pur_uripolicy.specs.HostRules.{PlainHostRule}
use Rattle.pur_foreign.specs.Removal.{element_in, attributes_in, is_admitted, tag_image, end_image, image_of, without_foreign}
use Rattle.pur_foreign.specs.Strict.{style_text, attributes_left}

abbrev Apart : List PlainToken → Type 0
Apart tokens = list_all shows_distinct tokens ≡ true

left_apart : (element : Element) (attrs : List Attribute) → is_distinct attrs ≡ true → is_distinct (attributes_left element attrs) ≡ true
left_apart Font attrs apart =
    is_distinct-without (without (without attrs (codes "color")) (codes "face")) (codes "size")
    (is_distinct-without (without attrs (codes "color")) (codes "face") (is_distinct-without attrs (codes "color") apart))
left_apart element attrs apart = apart

attributes_apart : (doctype : Doctype) (element : Element) (attrs : List Attribute) → is_distinct attrs ≡ true
    → is_distinct (attributes_in doctype element attrs) ≡ true
attributes_apart Strict element attrs apart =
    is_distinct-with_style (style_text element attrs) (attributes_left element attrs) (left_apart element attrs apart)
attributes_apart Transitional element attrs apart = apart

module _ (rules : Rules) (rule : PlainHostRule) where
  tag_apart : (tag : List ℕ → List Attribute → PlainToken) (found : Option Element) (attrs : List Attribute)
      → ((name : List ℕ) (pairs : List Attribute) → is_distinct pairs ≡ true → shows_distinct (tag name pairs) ≡ true)
      → is_distinct attrs ≡ true → Apart (tag_image rules rule tag found attrs)
  tag_apart tag None attrs makes apart = refl
  tag_apart tag (Some element) attrs makes apart =
      let kept = element_in rules.doctype element in
      let left = attributes_in rules.doctype element attrs in
      either Apart (permits_element rules kept && is_admitted rules rule kept left) _ _
      (and_from (shows_distinct (tag (element_name kept) left)) true
      (makes (element_name kept) left (attributes_apart rules.doctype element attrs apart)) refl)
      refl

  end_apart : (found : Option Element) → Apart (end_image rules found)
  end_apart None = refl
  end_apart (Some element) = either Apart (permits_element rules (element_in rules.doctype element)) _ _ refl refl

  image_apart : (token : PlainToken) → shows_distinct token ≡ true → Apart (image_of rules rule token)
  image_apart (text_token text) apart = refl
  image_apart (start_token name attrs) apart = tag_apart start_token (element_named name) attrs (λ n pairs is. is) apart
  image_apart (empty_token name attrs) apart = tag_apart empty_token (element_named name) attrs (λ n pairs is. is) apart
  image_apart (end_token name) apart = end_apart (element_named name)
  image_apart (hidden_token name body) apart = refl
  image_apart (comment_token text) apart = refl

  images_apart : (tokens : List PlainToken) → Apart tokens → Apart (flat_map (image_of rules rule) tokens)
  images_apart [] apart = refl
  images_apart (token ∷ tokens) apart =
      let parts = and_parts (shows_distinct token) (list_all shows_distinct tokens) apart in
      all-append shows_distinct (image_of rules rule token) (flat_map (image_of rules rule) tokens)
      (image_apart token parts.0) (images_apart tokens parts.1)

-- what stays
pub kept_apart : (rules : Rules) (rule : PlainHostRule) (tokens : List PlainToken) → list_all shows_distinct tokens ≡ true
    → list_all shows_distinct (without_foreign rules rule tokens) ≡ true
unfolding without_foreign
kept_apart rules rule tokens apart =
    all-joined shows_distinct (λ s t one two. refl) (flat_map (image_of rules rule) tokens) (images_apart rules rule tokens apart)
