-- The characters that tokens have.
use Rattle.std.specs.Prelude.{ℕ, Bool, ◌&&◌}
use Rattle.std.specs.List.{list_all}
use Rattle.pur_attrlist.specs.Attributes.{Attribute}
use Rattle.pur_tokens.specs.Tokens.{PlainToken, text_token, start_token, end_token, empty_token, hidden_token, comment_token}

-- an attribute whose name and value have only characters that pass the test
abbrev pub attribute_has_only : (ℕ → Bool) → Attribute → Bool
attribute_has_only test pair = list_all test pair.0 && list_all test pair.1

-- a token whose texts, names and values have only characters that pass the test
abbrev pub token_has_only : (ℕ → Bool) → PlainToken → Bool
token_has_only test (text_token text) = list_all test text
token_has_only test (start_token name attrs) = list_all test name && list_all (attribute_has_only test) attrs
token_has_only test (end_token name) = list_all test name
token_has_only test (empty_token name attrs) = list_all test name && list_all (attribute_has_only test) attrs
token_has_only test (hidden_token name body) = list_all test name && list_all test body
token_has_only test (comment_token text) = list_all test text
