-- Tokens of allowed characters leave tokens of allowed characters alone.
use Rattle.std.proofs.Common.{◌≡◌, ℕ, true, List, [], ◌∷◌, ◌++◌, flat_map, Option, None, Some, IfSome, refl}
use Rattle.std.specs.Prelude.{◌&&◌, not, codes}
use Rattle.std.specs.List.{list_all}
use Rattle.std.specs.Str.{bytes_eq}
use Rattle.std.proofs.lemmas.Bool.{and_parts, and_from}
use Rattle.pur_laws.proofs.Truth.{either}
use Rattle.pur_laws.proofs.Lists.{all-append, all-filter}
use Rattle.pur_text.specs.Characters.{is_allowed}
use Rattle.pur_text.specs.Trimming.{trimmed}
use Rattle.pur_names.specs.declared.elements.Element.{Element}
use Rattle.pur_names.specs.declared.elements.Element.TheVariants.{Font}
use Rattle.pur_names.specs.Elements.{element_name, element_named}
use Rattle.pur_names.proofs.ElementLaws.{each_element}
use Rattle.pur_modules.specs.declared.kinds.Doctype.{Doctype}
use Rattle.pur_modules.specs.declared.kinds.Doctype.TheVariants.{Strict, Transitional}
use Rattle.pur_attrlist.specs.Attributes.{Attribute, is_same_text, value_of, with_value, without}
use Rattle.pur_tokens.specs.Characters.{attribute_has_only, token_has_only}
use Rattle.pur_attrlist.specs.Styles.{text_or_none, with_style}
use Rattle.pur_tokens.proofs.JoiningLaws.{only-joined}
use Rattle.pur_tokens.specs.Tokens.{PlainToken, text_token, start_token, end_token, empty_token, hidden_token, comment_token}
use Rattle.pur_settings.specs.Rules.{Rules, permits_element}
use Rattle.pur_uripolicy.specs.HostRules.{PlainHostRule}
use Rattle.pur_foreign.specs.Removal.{element_in, attributes_in, is_admitted, tag_image, end_image, image_of, without_foreign}
use Rattle.pur_foreign.specs.Strict.{size_named, size_of, declaration, font_style, style_text, attributes_left}

abbrev Allowed : List ℕ → Type 0
Allowed text = list_all is_allowed text ≡ true

abbrev PairsAllowed : List Attribute → Type 0
PairsAllowed pairs = list_all (attribute_has_only is_allowed) pairs ≡ true

abbrev TokensAllowed : List PlainToken → Type 0
TokensAllowed tokens = list_all (token_has_only is_allowed) tokens ≡ true

-- ---- attributes

value_allowed : (pairs : List Attribute) (name : List ℕ) → PairsAllowed pairs → IfSome (value_of pairs name) Allowed
value_allowed [] name all = tt
value_allowed (pair ∷ pairs) name all =
    let parts = and_parts (attribute_has_only is_allowed pair) (list_all (attribute_has_only is_allowed) pairs) all in
    either (λ (o : Option (List ℕ)). IfSome o Allowed) (is_same_text name pair.0) (Some pair.1) (value_of pairs name)
    (and_parts (list_all is_allowed pair.0) (list_all is_allowed pair.1) parts.0).1 (value_allowed pairs name parts.1)

one_more : (pair : Attribute) (pairs : List Attribute) → attribute_has_only is_allowed pair ≡ true → PairsAllowed pairs → PairsAllowed (pair ∷ pairs)
one_more pair pairs first all = and_from (attribute_has_only is_allowed pair) (list_all (attribute_has_only is_allowed) pairs) first all

set_allowed : (pairs : List Attribute) (name value : List ℕ) → Allowed name → Allowed value → PairsAllowed pairs → PairsAllowed (with_value pairs name value)
set_allowed [] name value n v all = one_more (name, value) [] (and_from (list_all is_allowed name) (list_all is_allowed value) n v) refl
set_allowed (pair ∷ pairs) name value n v all =
    let parts = and_parts (attribute_has_only is_allowed pair) (list_all (attribute_has_only is_allowed) pairs) all in
    either PairsAllowed (is_same_text name pair.0) ((name, value) ∷ pairs) (pair ∷ with_value pairs name value)
    (one_more (name, value) pairs (and_from (list_all is_allowed name) (list_all is_allowed value) n v) parts.1)
    (one_more pair (with_value pairs name value) parts.0 (set_allowed pairs name value n v parts.1))

left_allowed : (pairs : List Attribute) (name : List ℕ) → PairsAllowed pairs → PairsAllowed (without pairs name)
left_allowed pairs name all = all-filter (attribute_has_only is_allowed) (λ pair. not (is_same_text name pair.0)) pairs all

-- ---- the styles of Strict

-- a value, if there is one, has allowed characters alone
abbrev ValueAllowed : Option (List ℕ) → Type 0
ValueAllowed value = IfSome value Allowed

size_allowed : (text : List ℕ) → ValueAllowed (size_named text)
size_allowed text =
    either ValueAllowed (bytes_eq text (codes "1")) _ _ refl
    (either ValueAllowed (bytes_eq text (codes "2")) _ _ refl
    (either ValueAllowed (bytes_eq text (codes "3")) _ _ refl
    (either ValueAllowed (bytes_eq text (codes "4")) _ _ refl
    (either ValueAllowed (bytes_eq text (codes "5")) _ _ refl
    (either ValueAllowed (bytes_eq text (codes "6")) _ _ refl
    (either ValueAllowed (bytes_eq text (codes "7")) _ _ refl
    (either ValueAllowed (bytes_eq text (codes "+1")) _ _ refl
    (either ValueAllowed (bytes_eq text (codes "-1")) _ _ refl tt))))))))

size_of_allowed : (value : Option (List ℕ)) → ValueAllowed (size_of value)
size_of_allowed None = tt
size_of_allowed (Some value) = size_allowed (trimmed value)

declared_allowed : (property : List ℕ) (value : Option (List ℕ)) → Allowed property → ValueAllowed value → Allowed (declaration property value)
declared_allowed property None p v = refl
declared_allowed property (Some value) p v =
    all-append is_allowed (property ++ codes ":" ++ value) (codes ";")
    (all-append is_allowed (property ++ codes ":") value (all-append is_allowed property (codes ":") p refl) v) refl

font_allowed : (attrs : List Attribute) → PairsAllowed attrs → Allowed (font_style attrs)
font_allowed attrs all =
    let color = declaration (codes "color") (value_of attrs (codes "color")) in
    let family = declaration (codes "font-family") (value_of attrs (codes "face")) in
    let size = declaration (codes "font-size") (size_of (value_of attrs (codes "size"))) in
    all-append is_allowed (color ++ family) size
    (all-append is_allowed color family
    (declared_allowed (codes "color") (value_of attrs (codes "color")) refl (value_allowed attrs (codes "color") all))
    (declared_allowed (codes "font-family") (value_of attrs (codes "face")) refl (value_allowed attrs (codes "face") all)))
    (declared_allowed (codes "font-size") (size_of (value_of attrs (codes "size"))) refl (size_of_allowed (value_of attrs (codes "size"))))

-- the style that stands for an element has allowed characters alone: but that of a `font` it is a text of the table
style_allowed : (element : Element) (attrs : List Attribute) → PairsAllowed attrs → Allowed (style_text element attrs)
style_allowed Font attrs all = font_allowed attrs all
style_allowed element attrs all = refl

left_of_element : (element : Element) (attrs : List Attribute) → PairsAllowed attrs → PairsAllowed (attributes_left element attrs)
left_of_element Font attrs all =
    left_allowed (without (without attrs (codes "color")) (codes "face")) (codes "size")
    (left_allowed (without attrs (codes "color")) (codes "face") (left_allowed attrs (codes "color") all))
left_of_element element attrs all = all

own_style : (value : Option (List ℕ)) → ValueAllowed value → Allowed (text_or_none value)
own_style None v = refl
own_style (Some value) v = v

with_style_allowed : (style : List ℕ) (attrs : List Attribute) → Allowed style → PairsAllowed attrs → PairsAllowed (with_style style attrs)
with_style_allowed [] attrs s all = all
with_style_allowed (c ∷ style) attrs s all =
    set_allowed attrs (codes "style") ((c ∷ style) ++ text_or_none (value_of attrs (codes "style"))) refl
    (all-append is_allowed (c ∷ style) (text_or_none (value_of attrs (codes "style"))) s
    (own_style (value_of attrs (codes "style")) (value_allowed attrs (codes "style") all))) all

attributes_allowed : (doctype : Doctype) (element : Element) (attrs : List Attribute) → PairsAllowed attrs → PairsAllowed (attributes_in doctype element attrs)
attributes_allowed Strict element attrs all =
    with_style_allowed (style_text element attrs) (attributes_left element attrs) (style_allowed element attrs all) (left_of_element element attrs all)
attributes_allowed Transitional element attrs all = all

-- ---- tokens

name_allowed : (element : Element) → Allowed (element_name element)
name_allowed element = each_element (λ e. list_all is_allowed (element_name e)) refl element

one_token : (token : PlainToken) → token_has_only is_allowed token ≡ true → TokensAllowed (token ∷ [])
one_token token all = and_from (token_has_only is_allowed token) true all refl

tag_allowed : (rules : Rules) (rule : PlainHostRule) (tag : List ℕ → List Attribute → PlainToken) (element : Option Element) (attrs : List Attribute)
    → ((name : List ℕ) (pairs : List Attribute) → Allowed name → PairsAllowed pairs → token_has_only is_allowed (tag name pairs) ≡ true)
    → PairsAllowed attrs → TokensAllowed (tag_image rules rule tag element attrs)
tag_allowed rules rule tag None attrs makes all = refl
tag_allowed rules rule tag (Some element) attrs makes all =
    let kept = element_in rules.doctype element in
    let left = attributes_in rules.doctype element attrs in
    either TokensAllowed (permits_element rules kept && is_admitted rules rule kept left) _ _
    (one_token (tag (element_name kept) left) (makes (element_name kept) left (name_allowed kept) (attributes_allowed rules.doctype element attrs all)))
    refl

end_allowed : (rules : Rules) (element : Option Element) → TokensAllowed (end_image rules element)
end_allowed rules None = refl
end_allowed rules (Some element) =
    let kept = element_in rules.doctype element in
    either TokensAllowed (permits_element rules kept) _ _ (one_token (end_token (element_name kept)) (name_allowed kept)) refl

named : (name : List ℕ) (pairs : List Attribute) → Allowed name → PairsAllowed pairs
    → (list_all is_allowed name && list_all (attribute_has_only is_allowed) pairs) ≡ true
named name pairs n all = and_from (list_all is_allowed name) (list_all (attribute_has_only is_allowed) pairs) n all

attributes_of : (name : List ℕ) (attrs : List Attribute) → (list_all is_allowed name && list_all (attribute_has_only is_allowed) attrs) ≡ true → PairsAllowed attrs
attributes_of name attrs all = (and_parts (list_all is_allowed name) (list_all (attribute_has_only is_allowed) attrs) all).1

image_allowed : (rules : Rules) (rule : PlainHostRule) (token : PlainToken) → token_has_only is_allowed token ≡ true → TokensAllowed (image_of rules rule token)
image_allowed rules rule (text_token text) all = one_token (text_token text) all
image_allowed rules rule (start_token name attrs) all = tag_allowed rules rule start_token (element_named name) attrs named (attributes_of name attrs all)
image_allowed rules rule (empty_token name attrs) all = tag_allowed rules rule empty_token (element_named name) attrs named (attributes_of name attrs all)
image_allowed rules rule (end_token name) all = end_allowed rules (element_named name)
image_allowed rules rule (hidden_token name body) all = refl
image_allowed rules rule (comment_token text) all = refl

images_allowed : (rules : Rules) (rule : PlainHostRule) (tokens : List PlainToken) → TokensAllowed tokens → TokensAllowed (flat_map (image_of rules rule) tokens)
images_allowed rules rule [] all = refl
images_allowed rules rule (token ∷ tokens) all =
    let parts = and_parts (token_has_only is_allowed token) (list_all (token_has_only is_allowed) tokens) all in
    all-append (token_has_only is_allowed) (image_of rules rule token) (flat_map (image_of rules rule) tokens)
    (image_allowed rules rule token parts.0) (images_allowed rules rule tokens parts.1)

-- what stays of tokens of allowed characters has allowed characters alone
pub foreign_allowed : (rules : Rules) (rule : PlainHostRule) (tokens : List PlainToken) → list_all (token_has_only is_allowed) tokens ≡ true
    → list_all (token_has_only is_allowed) (without_foreign rules rule tokens) ≡ true
unfolding without_foreign
foreign_allowed rules rule tokens all = only-joined is_allowed (flat_map (image_of rules rule) tokens) (images_allowed rules rule tokens all)
