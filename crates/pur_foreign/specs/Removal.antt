-- The removal of foreign elements (the first strategy of HTML Purifier).
use Rattle.std.specs.Prelude.{ℕ, Bool, true, List, [], ◌∷◌, flat_map, ◌&&◌, Option, Some, None, if◌then◌else◌}
use Rattle.pur_names.specs.Elements.{element_name, element_named}
use Rattle.pur_names.specs.declared.elements.Element.{Element}
use Rattle.pur_names.specs.declared.elements.Element.TheVariants.{Img}
use Rattle.pur_modules.specs.declared.kinds.Doctype.{Doctype}
use Rattle.pur_modules.specs.declared.kinds.Doctype.TheVariants.{Strict, Transitional}
use Rattle.pur_attrlist.specs.Attributes.{Attribute}
use Rattle.pur_tokens.specs.Tokens.{PlainToken, text_token, start_token, end_token, empty_token, hidden_token, comment_token}
use Rattle.pur_tokens.specs.Joining.{joined}
use Rattle.pur_settings.specs.Rules.{Rules, permits_element}
use Rattle.pur_uripolicy.specs.HostRules.{PlainHostRule}
use Rattle.pur_uripolicy.specs.Admissible.{has_source}
use Rattle.pur_foreign.specs.Strict.{strict_element, strict_attributes}

-- the element that stands for another in a doctype
abbrev pub element_in : Doctype → Element → Element
element_in Strict element = strict_element element
element_in Transitional element = element

-- the attributes that stand for those of an element in a doctype
abbrev pub attributes_in : Doctype → Element → List Attribute → List Attribute
attributes_in Strict element attrs = strict_attributes element attrs
attributes_in Transitional element attrs = attrs

-- whether what an element shows can be admitted: a picture where its source is there and may be embedded, all else always
abbrev pub is_admitted : Rules → PlainHostRule → Element → List Attribute → Bool
is_admitted rules rule Img attrs = has_source rules rule attrs
is_admitted rules rule element attrs = true

-- what stands for a start tag or an empty tag, made by `tag`: nothing for a name that no element has, for an element
-- that isn't permitted, and for one that isn't admitted with its attributes
abbrev pub tag_image : Rules → PlainHostRule → (List ℕ → List Attribute → PlainToken) → Option Element → List Attribute → List PlainToken
tag_image rules rule tag None attrs = []
tag_image rules rule tag (Some element) attrs =
    let kept = element_in rules.doctype element in
    let left = attributes_in rules.doctype element attrs in
    if permits_element rules kept && is_admitted rules rule kept left then tag (element_name kept) left ∷ [] else []

-- what stands for an end tag: nothing for a name that no element has, and for an element that isn't permitted
abbrev pub end_image : Rules → Option Element → List PlainToken
end_image rules None = []
end_image rules (Some element) =
    let kept = element_in rules.doctype element in
    if permits_element rules kept then end_token (element_name kept) ∷ [] else []

-- what stands for a token: one token, or nothing
abbrev pub image_of : Rules → PlainHostRule → PlainToken → List PlainToken
image_of rules rule (text_token text) = text_token text ∷ []
image_of rules rule (start_token name attrs) = tag_image rules rule start_token (element_named name) attrs
image_of rules rule (empty_token name attrs) = tag_image rules rule empty_token (element_named name) attrs
image_of rules rule (end_token name) = end_image rules (element_named name)
image_of rules rule (hidden_token name body) = []
image_of rules rule (comment_token text) = []

-- the tokens that stand for others, with neighbouring texts joined
unfoldable pub without_foreign : Rules → PlainHostRule → List PlainToken → List PlainToken
without_foreign rules rule tokens = joined (flat_map (image_of rules rule) tokens)
