-- The style sheets of a page's tokens (HTML 4.01, section 14.2.3).
use Rattle.std.specs.Prelude.{ℕ, Bool, true, false, if◌then◌else◌, List, ◌++◌, Option, Some, None, codes, filter_map}
use Rattle.std.specs.List.{flat_map, join_by}
use Rattle.std.specs.Str.{bytes_eq}
use Rattle.pur_tokens.specs.Tokens.{PlainToken, hidden_token}

-- the name of a style sheet's element
abbrev pub is_style : List ℕ → Bool
is_style name = bytes_eq name (codes "style")

-- the body of a `style`, and none of any other token
abbrev pub style_body : PlainToken → Option (List ℕ)
style_body (hidden_token name body) = if is_style name then Some body else None
style_body other = None

-- the bodies of all of them, in order, with a line feed between two
abbrev pub styles_of : List PlainToken → List ℕ
styles_of tokens = join_by (λ body. body) (codes "\n") (filter_map style_body tokens)

-- the bodies of these tokens, each behind a line feed where one stands before
abbrev pub styles_behind : Bool → List PlainToken → List ℕ
styles_behind true tokens = flat_map (λ body. codes "\n" ++ body) (filter_map style_body tokens)
styles_behind false tokens = styles_of tokens

-- what was taken out of the tokens that came, and whether there was a body among them
pub record TakenStyles : Type 0 where
  pub text : List ℕ
  pub begun : Bool

-- the style sheets of all tokens, with these still to come
abbrev pub styles_with : TakenStyles → List PlainToken → List ℕ
styles_with taken more = taken.text ++ styles_behind taken.begun more
