-- A picture stays only where its source is there and may be embedded.
use Rattle.std.proofs.Common.{◌≡◌, ℕ, List, [], ◌∷◌, refl, ◌∙◌, Bool, true, false, ◌&&◌, if◌then◌else◌, flat_map, Option, Some, None}
use Rattle.std.specs.List.{list_all}
use Rattle.std.proofs.lemmas.Bool.{and_from}
use Rattle.pur_laws.proofs.Lists.{all-append}
use Rattle.pur_names.specs.Elements.{element_name, element_named}
use Rattle.pur_names.specs.declared.elements.Element.{Element}
use Rattle.pur_names.specs.declared.elements.Element.TheVariants.{Img}
use Rattle.pur_attrlist.specs.Attributes.{Attribute}
use Rattle.pur_tokens.specs.Pictures.{has_good_picture, is_good_tag}
use Rattle.pur_tokens.specs.Tokens.{PlainToken, text_token, start_token, end_token, empty_token, hidden_token, comment_token}
use Rattle.pur_tokens.proofs.JoiningLaws.{all-joined}
use Rattle.pur_settings.specs.Rules.{Rules, permits_element}
use Rattle.pur_uripolicy.specs.Admissible.{has_source}
use Rattle.pur_uripolicy.specs.HostRules.{PlainHostRule}
use Rattle.pur_foreign.specs.Removal.{element_in, attributes_in, is_admitted, tag_image, end_image, image_of, without_foreign}

module _ (rules : Rules) (rule : PlainHostRule) where
  -- a tag that is admitted is that of no picture, or its attributes have such a source
  admitted-good : (e : Element) (attrs : List Attribute) → is_admitted rules rule e attrs ≡ true → is_good_tag (has_source rules rule) (element_name e) attrs ≡ true
  admitted-good Img attrs admitted = admitted
  admitted-good e attrs admitted = refl

  -- what stands for a tag
  good-tag : (tag : List ℕ → List Attribute → PlainToken)
      → ((name : List ℕ) (attrs : List Attribute) → has_good_picture (has_source rules rule) (tag name attrs) ≡ is_good_tag (has_source rules rule) name attrs)
      → (found : Option Element) (attrs : List Attribute) → list_all (has_good_picture (has_source rules rule)) (tag_image rules rule tag found attrs) ≡ true
  good-tag tag says None attrs = refl
  good-tag tag says (Some e) attrs = go (permits_element rules kept) (is_admitted rules rule kept left) refl
    where
      kept : Element
      kept = element_in rules.doctype e

      left : List Attribute
      left = attributes_in rules.doctype e attrs

      go : (b a : Bool) → is_admitted rules rule kept left ≡ a
          → list_all (has_good_picture (has_source rules rule)) (if b && a then tag (element_name kept) left ∷ [] else []) ≡ true
      go true true admitted = and_from _ _ (says (element_name kept) left ∙ admitted-good kept left admitted) refl
      go true false admitted = refl
      go false a admitted = refl

  good-end : (found : Option Element) → list_all (has_good_picture (has_source rules rule)) (end_image rules found) ≡ true
  good-end None = refl
  good-end (Some e) = go (permits_element rules (element_in rules.doctype e))
    where
      go : (b : Bool) → list_all (has_good_picture (has_source rules rule)) (if b then end_token (element_name (element_in rules.doctype e)) ∷ [] else []) ≡ true
      go true = refl
      go false = refl

  good-image : (token : PlainToken) → list_all (has_good_picture (has_source rules rule)) (image_of rules rule token) ≡ true
  good-image (text_token text) = refl
  good-image (start_token name attrs) = good-tag start_token (λ name attrs. refl) (element_named name) attrs
  good-image (empty_token name attrs) = good-tag empty_token (λ name attrs. refl) (element_named name) attrs
  good-image (end_token name) = good-end (element_named name)
  good-image (hidden_token name body) = refl
  good-image (comment_token text) = refl

  good-images : (tokens : List PlainToken) → list_all (has_good_picture (has_source rules rule)) (flat_map (image_of rules rule) tokens) ≡ true
  good-images [] = refl
  good-images (token ∷ tokens) =
      all-append (has_good_picture (has_source rules rule)) (image_of rules rule token) (flat_map (image_of rules rule) tokens)
      (good-image token) (good-images tokens)

  -- each picture that stays has a source that may be embedded
  pub pictures-kept : (tokens : List PlainToken) → list_all (has_good_picture (has_source rules rule)) (without_foreign rules rule tokens) ≡ true
  unfolding without_foreign
  pictures-kept tokens = all-joined (has_good_picture (has_source rules rule)) (λ s t one two. refl) (flat_map (image_of rules rule) tokens) (good-images tokens)
