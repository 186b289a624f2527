-- The tokens of a text.
use Rattle.std.specs.Prelude.{ℕ, zero, suc, ◌-◌, List, [], ◌∷◌, ◌++◌, length, filter}
use Rattle.pur_tokens.specs.Joining.{joined, is_some_token}
use Rattle.pur_tokens.specs.Tokens.{PlainToken}
use Rattle.pur_lexer.specs.Constructs.{construct_of}

-- what the constructs give, one after another, in a text whose first n characters belong to one that was read already
unfoldable pub given_behind : ℕ → List ℕ → List PlainToken
given_behind n [] = []
given_behind (suc n) (c ∷ text) = given_behind n text
given_behind zero (c ∷ text) =
    let construct = construct_of (c ∷ text) in
    construct.gives ++ given_behind (length text - length construct.rest) text

-- the tokens of a text: what its constructs give, without empty texts, and with neighbouring texts joined
unfoldable pub tokens_of : List ℕ → List PlainToken
tokens_of text = joined (filter is_some_token (given_behind 0 text))
