-- What stays of tags, and of tokens behind one that is held.
use Rattle.std.specs.Prelude.{ℕ, List, [], ◌∷◌, Option, Some, None}
use Rattle.pur_names.specs.Elements.{element_name}
use Rattle.pur_names.specs.declared.elements.Element.{Element}
use Rattle.pur_attrlist.specs.Attributes.{Attribute}
use Rattle.pur_tokens.specs.Joining.{held_before}
use Rattle.pur_tokens.specs.Tokens.{PlainToken, end_token}
use Rattle.pur_tokens.specs.declared.shown.ShownTag.{ShownTag}
use Rattle.pur_settings.specs.Rules.{Rules}
use Rattle.pur_uripolicy.specs.HostRules.{PlainHostRule}
use Rattle.pur_foreign.specs.Removal.{without_foreign}

-- the tag that stays of another, as the token that `tag` makes of it, or none
abbrev pub tags_kept : (List ℕ → List Attribute → PlainToken) → Option ShownTag → List PlainToken
tags_kept make None = []
tags_kept make (Some tag) = make (element_name tag.element) tag.attrs ∷ []

-- the end tag that stays of another, or none
abbrev pub ends_kept : Option Element → List PlainToken
ends_kept None = []
ends_kept (Some element) = end_token (element_name element) ∷ []

-- what stays of tokens, behind a token that is held, where there is one
unfoldable pub kept_behind : Rules → PlainHostRule → Option PlainToken → List PlainToken → List PlainToken
kept_behind rules rule held tokens = held_before held (without_foreign rules rule tokens)
