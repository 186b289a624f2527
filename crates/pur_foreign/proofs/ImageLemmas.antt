-- What the tokens that stand for others have of their texts.
use Rattle.std.proofs.Common.{◌≡◌, ℕ, Bool, true, false, ◌&&◌, List, [], ◌∷◌, flat_map, refl, ◌∙◌, Option, None, Some, arith}
use Rattle.std.specs.Prelude.{if◌then◌else◌}
use Rattle.std.proofs.lemmas.Bool.{and_from, and_parts}
use Rattle.pur_laws.proofs.Lists.{all-append}
use Rattle.pur_names.specs.Elements.{element_name, element_named}
use Rattle.pur_names.specs.declared.elements.Element.{Element}
use Rattle.pur_attrlist.specs.Attributes.{Attribute}
use Rattle.pur_tokens.specs.Joining.{is_some_token, has_no_empty_text, has_no_neighbours, count_in_token, count_in_text}
use Rattle.pur_tokens.specs.Tokens.{PlainToken, text_token, start_token, end_token, empty_token, hidden_token, comment_token}
use Rattle.pur_tokens.proofs.JoiningLaws.{count-append, count-joined, neighbours-joined, some-joined}
use Rattle.pur_settings.specs.Rules.{Rules, permits_element}
use Rattle.pur_uripolicy.specs.HostRules.{PlainHostRule}
use Rattle.pur_foreign.specs.Removal.{element_in, attributes_in, is_admitted, tag_image, end_image, image_of, without_foreign}

-- what stands for a tag has what that tag has, where it stands
module _ (P : List PlainToken → Type 0) (nothing : P []) (rules : Rules) (rule : PlainHostRule) where
  tag_has : (make : List ℕ → List Attribute → PlainToken) → ((name : List ℕ) (attrs : List Attribute) → P (make name attrs ∷ []))
      → (found : Option Element) (attrs : List Attribute) → P (tag_image rules rule make found attrs)
  tag_has make made None attrs = nothing
  tag_has make made (Some e) attrs =
      go (permits_element rules (element_in rules.doctype e) && is_admitted rules rule (element_in rules.doctype e) (attributes_in rules.doctype e attrs))
    where
      go : (stays : Bool) → P (if stays then make (element_name (element_in rules.doctype e)) (attributes_in rules.doctype e attrs) ∷ [] else [])
      go true = made (element_name (element_in rules.doctype e)) (attributes_in rules.doctype e attrs)
      go false = nothing

  end_has : ((name : List ℕ) → P (end_token name ∷ [])) → (found : Option Element) → P (end_image rules found)
  end_has made None = nothing
  end_has made (Some e) = go (permits_element rules (element_in rules.doctype e))
    where
      go : (stays : Bool) → P (if stays then end_token (element_name (element_in rules.doctype e)) ∷ [] else [])
      go true = made (element_name (element_in rules.doctype e))
      go false = nothing

-- no text is empty where none was
some-image : (rules : Rules) (rule : PlainHostRule) (token : PlainToken) → is_some_token token ≡ true → has_no_empty_text (image_of rules rule token) ≡ true
some-image rules rule (text_token s) some = and_from _ _ some refl
some-image rules rule (start_token n a) some = tag_has (λ ts. has_no_empty_text ts ≡ true) refl rules rule start_token (λ m b. refl) (element_named n) a
some-image rules rule (end_token n) some = end_has (λ ts. has_no_empty_text ts ≡ true) refl rules rule (λ m. refl) (element_named n)
some-image rules rule (empty_token n a) some = tag_has (λ ts. has_no_empty_text ts ≡ true) refl rules rule empty_token (λ m b. refl) (element_named n) a
some-image rules rule (hidden_token n b) some = refl
some-image rules rule (comment_token t) some = refl

some-images : (rules : Rules) (rule : PlainHostRule) (tokens : List PlainToken) → has_no_empty_text tokens ≡ true → has_no_empty_text (flat_map (image_of rules rule) tokens) ≡ true
some-images rules rule [] none = refl
some-images rules rule (token ∷ tokens) none =
    let parts = and_parts (is_some_token token) (has_no_empty_text tokens) none in
    all-append is_some_token (image_of rules rule token) (flat_map (image_of rules rule) tokens) (some-image rules rule token parts.0) (some-images rules rule tokens parts.1)

pub some-kept : (rules : Rules) (rule : PlainHostRule) (tokens : List PlainToken) → has_no_empty_text tokens ≡ true → has_no_empty_text (without_foreign rules rule tokens) ≡ true
unfolding without_foreign
some-kept rules rule tokens none = some-joined (flat_map (image_of rules rule) tokens) (some-images rules rule tokens none)

-- and no texts are neighbours
pub neighbours-kept : (rules : Rules) (rule : PlainHostRule) (tokens : List PlainToken) → has_no_neighbours (without_foreign rules rule tokens) ≡ true
unfolding without_foreign
neighbours-kept rules rule tokens = neighbours-joined (flat_map (image_of rules rule) tokens)

-- each character stands in the texts as often as before
count-image : (rules : Rules) (rule : PlainHostRule) (c : ℕ) (token : PlainToken) → count_in_text c (image_of rules rule token) ≡ count_in_token c token
count-image rules rule c (text_token s) = omega arith
count-image rules rule c (start_token n a) = tag_has (λ ts. count_in_text c ts ≡ 0) refl rules rule start_token (λ m b. refl) (element_named n) a
count-image rules rule c (end_token n) = end_has (λ ts. count_in_text c ts ≡ 0) refl rules rule (λ m. refl) (element_named n)
count-image rules rule c (empty_token n a) = tag_has (λ ts. count_in_text c ts ≡ 0) refl rules rule empty_token (λ m b. refl) (element_named n) a
count-image rules rule c (hidden_token n b) = refl
count-image rules rule c (comment_token t) = refl

count-images : (rules : Rules) (rule : PlainHostRule) (c : ℕ) (tokens : List PlainToken) → count_in_text c (flat_map (image_of rules rule) tokens) ≡ count_in_text c tokens
count-images rules rule c [] = refl
count-images rules rule c (token ∷ tokens) =
    count-append c (image_of rules rule token) (flat_map (image_of rules rule) tokens) ∙ omega (arith, count-image rules rule c token, count-images rules rule c tokens)

pub count-kept : (rules : Rules) (rule : PlainHostRule) (c : ℕ) (tokens : List PlainToken) → count_in_text c (without_foreign rules rule tokens) ≡ count_in_text c tokens
unfolding without_foreign
count-kept rules rule c tokens = count-joined c (flat_map (image_of rules rule) tokens) ∙ count-images rules rule c tokens
