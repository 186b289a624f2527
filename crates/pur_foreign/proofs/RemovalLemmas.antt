-- What stays of tokens, one after another.
use Rattle.std.proofs.Common.{◌≡◌, ℕ, List, [], ◌∷◌, ◌++◌, true, false, flat_map, sym, ap, ◌∙◌, refl, Option, Some, None, option_map}
use Rattle.pur_tokens.proofs.JoiningLaws.{ends}
use Rattle.pur_tokens.specs.Joining.{joined, held_before}
use Rattle.pur_tokens.specs.Shown.{plain_shown, shown_given}
use Rattle.pur_laws.proofs.Truth.{and_false}
use Rattle.pur_attrlist.specs.Attributes.{Attribute}
use Rattle.pur_tokens.specs.Tokens.{PlainToken, end_token}
use Rattle.pur_tokens.specs.declared.shown.Shown.{Shown}
use Rattle.pur_names.specs.declared.elements.Element.{Element}
use Rattle.pur_names.specs.Elements.{element_name}
use Rattle.pur_settings.specs.Rules.{Rules, permits_element}
use Rattle.pur_uripolicy.specs.HostRules.{PlainHostRule}
use Rattle.pur_foreign.specs.Removal.{element_in, attributes_in, is_admitted, tag_image, end_image, image_of, without_foreign}
use Rattle.pur_foreign.specs.Keeping.{kept_behind}

-- what stays of a token is held
pub kept-next : (rules : Rules) (rule : PlainHostRule) (before after : Option PlainToken) (token : PlainToken) (kept given : List PlainToken) → kept ≡ image_of rules rule token
    → ((more : List PlainToken) → held_before before (joined (kept ++ more)) ≡ given ++ held_before after (joined more))
    → (more : List PlainToken) → kept_behind rules rule before (token ∷ more) ≡ given ++ kept_behind rules rule after more
unfolding kept_behind without_foreign
kept-next rules rule before after token kept given image step more =
    ap (λ (l : List PlainToken). held_before before (joined (l ++ flat_map (image_of rules rule) more))) (sym image) ∙ step (flat_map (image_of rules rule) more)

-- before all tokens nothing is held, and behind all of them what is held stays
pub kept-begun : (rules : Rules) (rule : PlainHostRule) (tokens : List PlainToken) → kept_behind rules rule None tokens ≡ without_foreign rules rule tokens
unfolding kept_behind
kept-begun rules rule tokens = refl

pub kept-ended : (rules : Rules) (rule : PlainHostRule) (held : Option Shown) → kept_behind rules rule (option_map plain_shown held) [] ≡ shown_given held
unfolding kept_behind without_foreign joined
kept-ended rules rule None = refl
kept-ended rules rule (Some shown) = ends (plain_shown shown) [] refl

-- an end tag goes or stays with the leave of its element
pub end-goes : (rules : Rules) (e : Element) → permits_element rules (element_in rules.doctype e) ≡ false → [] ≡ end_image rules (Some e)
end-goes rules e refused = rw refused refl

pub end-stays : (rules : Rules) (e : Element) (name : List ℕ) → permits_element rules (element_in rules.doctype e) ≡ true
    → name ≡ element_name (element_in rules.doctype e) → end_token name ∷ [] ≡ end_image rules (Some e)
end-stays rules e name permitted named = rw (permitted, named) refl

-- a start tag or an empty tag goes or stays with the leave of its element
pub tag-goes : (rules : Rules) (rule : PlainHostRule) (make : List ℕ → List Attribute → PlainToken) (e : Element) (attrs : List Attribute)
    → permits_element rules (element_in rules.doctype e) ≡ false → [] ≡ tag_image rules rule make (Some e) attrs
tag-goes rules rule make e attrs refused = rw refused refl

pub tag-unadmitted : (rules : Rules) (rule : PlainHostRule) (make : List ℕ → List Attribute → PlainToken) (e : Element) (attrs : List Attribute)
    → is_admitted rules rule (element_in rules.doctype e) (attributes_in rules.doctype e attrs) ≡ false → [] ≡ tag_image rules rule make (Some e) attrs
tag-unadmitted rules rule make e attrs refused = rw (refused, and_false (permits_element rules (element_in rules.doctype e))) refl

pub tag-stays : (rules : Rules) (rule : PlainHostRule) (make : List ℕ → List Attribute → PlainToken) (e : Element) (attrs left : List Attribute) (name : List ℕ)
    → permits_element rules (element_in rules.doctype e) ≡ true → is_admitted rules rule (element_in rules.doctype e) (attributes_in rules.doctype e attrs) ≡ true
    → name ≡ element_name (element_in rules.doctype e) → left ≡ attributes_in rules.doctype e attrs
    → make name left ∷ [] ≡ tag_image rules rule make (Some e) attrs
tag-stays rules rule make e attrs left name permitted admitted named changed = rw (permitted, admitted, named, changed) refl
