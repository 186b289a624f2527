-- What stays can be shown: texts, and tags of permitted elements.
use Rattle.std.proofs.Common.{◌≡◌, ℕ, List, [], ◌∷◌, refl, ap, ◌∙◌, Bool, true, false, ◌&&◌, if◌then◌else◌, flat_map, Option, Some, None}
use Rattle.std.specs.List.{list_all}
use Rattle.std.proofs.lemmas.Bool.{and_from, and_parts}
use Rattle.pur_laws.proofs.Lists.{all-append}
use Rattle.pur_names.specs.Elements.{element_name, element_named}
use Rattle.pur_names.specs.declared.elements.Element.{Element}
use Rattle.pur_names.proofs.ElementLaws.{element_named-name}
use Rattle.pur_attrlist.specs.Attributes.{Attribute}
use Rattle.pur_tokens.specs.Joining.{has_no_empty_text, is_some_token}
use Rattle.pur_tokens.specs.Tokens.{PlainToken, shows_only, text_token, start_token, end_token, empty_token, hidden_token, comment_token}
use Rattle.pur_tokens.proofs.JoiningLaws.{shown-joined}
use Rattle.pur_settings.specs.Rules.{Rules, permits_element, permits_found, permits_name}
use Rattle.pur_uripolicy.specs.HostRules.{PlainHostRule}
use Rattle.pur_foreign.specs.Removal.{element_in, attributes_in, is_admitted, tag_image, end_image, image_of, without_foreign}

named : (rules : Rules) (e : Element) → permits_element rules e ≡ true → permits_name rules (element_name e) ≡ true
named rules e permitted = ap (permits_found rules) (element_named-name e) ∙ permitted

-- what stands for a tag
shown-tag : (rules : Rules) (rule : PlainHostRule) (tag : List ℕ → List Attribute → PlainToken)
    → ((name : List ℕ) (attrs : List Attribute) → shows_only (permits_name rules) (tag name attrs) ≡ permits_name rules name)
    → (found : Option Element) (attrs : List Attribute) → list_all (shows_only (permits_name rules)) (tag_image rules rule tag found attrs) ≡ true
shown-tag rules rule tag says None attrs = refl
shown-tag rules rule tag says (Some e) attrs = go (permits_element rules kept) (is_admitted rules rule kept (attributes_in rules.doctype e attrs)) refl
  where
    kept : Element
    kept = element_in rules.doctype e

    go : (b a : Bool) → permits_element rules kept ≡ b
        → list_all (shows_only (permits_name rules)) (if b && a then tag (element_name kept) (attributes_in rules.doctype e attrs) ∷ [] else []) ≡ true
    go true true permitted = and_from _ _ (says (element_name kept) (attributes_in rules.doctype e attrs) ∙ named rules kept permitted) refl
    go true false permitted = refl
    go false a permitted = refl

shown-end : (rules : Rules) (found : Option Element) → list_all (shows_only (permits_name rules)) (end_image rules found) ≡ true
shown-end rules None = refl
shown-end rules (Some e) = go (permits_element rules kept) refl
  where
    kept : Element
    kept = element_in rules.doctype e

    go : (b : Bool) → permits_element rules kept ≡ b
        → list_all (shows_only (permits_name rules)) (if b then end_token (element_name kept) ∷ [] else []) ≡ true
    go true permitted = and_from _ _ (named rules kept permitted) refl
    go false permitted = refl

shown-image : (rules : Rules) (rule : PlainHostRule) (token : PlainToken) → is_some_token token ≡ true → list_all (shows_only (permits_name rules)) (image_of rules rule token) ≡ true
shown-image rules rule (text_token text) some = and_from _ _ some refl
shown-image rules rule (start_token name attrs) some = shown-tag rules rule start_token (λ name attrs. refl) (element_named name) attrs
shown-image rules rule (empty_token name attrs) some = shown-tag rules rule empty_token (λ name attrs. refl) (element_named name) attrs
shown-image rules rule (end_token name) some = shown-end rules (element_named name)
shown-image rules rule (hidden_token name body) some = refl
shown-image rules rule (comment_token text) some = refl

shown-images : (rules : Rules) (rule : PlainHostRule) (tokens : List PlainToken) → has_no_empty_text tokens ≡ true
    → list_all (shows_only (permits_name rules)) (flat_map (image_of rules rule) tokens) ≡ true
shown-images rules rule [] some = refl
shown-images rules rule (token ∷ tokens) some =
    let parts = and_parts (is_some_token token) (has_no_empty_text tokens) some in
    all-append (shows_only (permits_name rules)) (image_of rules rule token) (flat_map (image_of rules rule) tokens)
    (shown-image rules rule token parts.0) (shown-images rules rule tokens parts.1)

-- texts stay, none of which is empty where none was, and tags of permitted elements
pub kept_is_shown : (rules : Rules) (rule : PlainHostRule) (tokens : List PlainToken) → has_no_empty_text tokens ≡ true
    → list_all (shows_only (permits_name rules)) (without_foreign rules rule tokens) ≡ true
unfolding without_foreign
kept_is_shown rules rule tokens some = shown-joined (permits_name rules) (flat_map (image_of rules rule) tokens) (shown-images rules rule tokens some)
