-- Tokens in which neighbouring texts are one, and what the texts of tokens have.
use Rattle.std.specs.Prelude.{ℕ, ◌+◌, Bool, true, false, ◌&&◌, not, nat_lt, List, [], ◌∷◌, ◌++◌, length, Option, Some, None}
use Rattle.std.specs.List.{list_all}
use Rattle.std.specs.Option.{option_map}
use Rattle.pur_attrlist.specs.Texts.{times}
use Rattle.pur_tokens.specs.Tokens.{PlainToken, plain_token, text_token}
use Rattle.pur_tokens.specs.declared.tokens.Token.{Token}

-- a token in front of others: two texts that become neighbours are one
abbrev pub join_token : PlainToken → List PlainToken → List PlainToken
join_token (text_token text) (text_token more ∷ tokens) = text_token (text ++ more) ∷ tokens
join_token token tokens = token ∷ tokens

-- the tokens in which neighbouring texts are one
unfoldable pub joined : List PlainToken → List PlainToken
joined [] = []
joined (token ∷ tokens) = join_token token (joined tokens)

-- a token that is held in front of others, where there is one
abbrev pub held_before : Option PlainToken → List PlainToken → List PlainToken
held_before None tokens = tokens
held_before (Some token) tokens = join_token token tokens

-- what is given, if something is, as a list
abbrev pub token_given : Option PlainToken → List PlainToken
token_given None = []
token_given (Some token) = token ∷ []

-- what a token that is given says, or none
abbrev pub tokens_given : Option Token → List PlainToken
tokens_given given = token_given (option_map plain_token given)

-- whether a token is a text
abbrev pub is_text : PlainToken → Bool
is_text (text_token text) = true
is_text token = false

-- a token that isn't an empty text
abbrev pub is_some_token : PlainToken → Bool
is_some_token (text_token text) = nat_lt 0 (length text)
is_some_token token = true

-- no text is empty
abbrev pub has_no_empty_text : List PlainToken → Bool
has_no_empty_text tokens = list_all is_some_token tokens

-- the list begins with a text
abbrev pub begins_with_text : List PlainToken → Bool
begins_with_text [] = false
begins_with_text (token ∷ tokens) = is_text token

-- no texts are neighbours
abbrev pub has_no_neighbours : List PlainToken → Bool
has_no_neighbours [] = true
has_no_neighbours (token ∷ tokens) = not (is_text token && begins_with_text tokens) && has_no_neighbours tokens

-- how often a character stands in a token, as text
abbrev pub count_in_token : ℕ → PlainToken → ℕ
count_in_token c (text_token text) = times c text
count_in_token c token = 0

-- how often a character, given as its number, stands in the texts of tokens
abbrev pub count_in_text : ℕ → List PlainToken → ℕ
count_in_text c [] = 0
count_in_text c (token ∷ tokens) = count_in_token c token + count_in_text c tokens
