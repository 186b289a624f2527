-- What is read so far, and what follows.
use Rattle.std.specs.Prelude.{ℕ, Option, None, Some, Bool, List, [], ◌∷◌}
use Rattle.pur_attrlist.specs.Attributes.{Attribute, with_new}
use Rattle.pur_tokens.specs.Joining.{held_before}
use Rattle.pur_tokens.specs.Tokens.{PlainToken}
use Rattle.pur_lexer.specs.Tags.{TagEnd}
use Rattle.pur_lexer.specs.Constructs.{Construct, gives_one}
use Rattle.pur_lexer.specs.Lexing.{tokens_of}

-- attributes with others put behind them one by one, each if its name is new
unfoldable pub with_all_new : List Attribute → List Attribute → List Attribute
with_all_new attrs [] = attrs
with_all_new attrs (pair ∷ pairs) = with_all_new (with_new attrs pair.0 pair.1) pairs

-- the end of a tag with these attributes
abbrev pub tag_end_with : List Attribute → Bool → List ℕ → TagEnd
tag_end_with attrs is_empty rest = record { attrs = attrs; is_empty = is_empty; rest = rest }

-- the end of a tag before which these attributes were read
abbrev pub tag_end_after : List Attribute → TagEnd → TagEnd
tag_end_after attrs tag = record { attrs = with_all_new attrs tag.attrs; is_empty = tag.is_empty; rest = tag.rest }

-- the construct with this token, or with none, before this text
abbrev pub construct_with : Option PlainToken → List ℕ → Construct
construct_with None rest = record { gives = []; rest = rest }
construct_with (Some token) rest = gives_one token rest

-- the tokens that are left: one that is held, where there is one, in front of those of the rest of the text
abbrev pub left_of : Option PlainToken → List ℕ → List PlainToken
left_of held rest = held_before held (tokens_of rest)
