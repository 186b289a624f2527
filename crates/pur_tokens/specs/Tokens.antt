-- Tokens as plain values: texts are lists of characters, attributes a list of pairs.
use Rattle.std.specs.Prelude.{ℕ, Bool, false, List, length, nat_lt}
use Rattle.pur_attrlist.specs.Texts.{text_of}
use Rattle.pur_attrlist.specs.Attributes.{Attribute}
use Rattle.pur_tokens.specs.declared.tokens.Token.{Token}
use Rattle.pur_tokens.specs.declared.tokens.Token.TheVariants.{Text, Start, End, Empty, Hidden, Comment}

-- a text; a start tag, an end tag, an empty tag; a script or a style sheet; a comment (HTML 4.01, section 3.2)
pub data PlainToken : Type 0 where
  text_token : List ℕ → PlainToken
  start_token : List ℕ → List Attribute → PlainToken
  end_token : List ℕ → PlainToken
  empty_token : List ℕ → List Attribute → PlainToken
  hidden_token : List ℕ → List ℕ → PlainToken
  comment_token : List ℕ → PlainToken

-- a text that isn't empty, or a tag whose name passes the test: no comment, and no hidden content
abbrev pub shows_only : (List ℕ → Bool) → PlainToken → Bool
shows_only test (text_token text) = nat_lt 0 (length text)
shows_only test (start_token name attrs) = test name
shows_only test (end_token name) = test name
shows_only test (empty_token name attrs) = test name
shows_only test (hidden_token name body) = false
shows_only test (comment_token text) = false

-- what a token says
abbrev pub plain_token : Token → PlainToken
plain_token (Text text) = text_token (text_of text)
plain_token (Start tag) = start_token (text_of tag.name) tag.attrs
plain_token (End name) = end_token (text_of name)
plain_token (Empty tag) = empty_token (text_of tag.name) tag.attrs
plain_token (Hidden name body) = hidden_token (text_of name) (text_of body)
plain_token (Comment text) = comment_token (text_of text)
