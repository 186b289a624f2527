-- What is asked of the attributes of a picture.
use Rattle.std.specs.Prelude.{ℕ, Bool, true, not, ◌||◌, List, codes}
use Rattle.pur_attrlist.specs.Attributes.{Attribute, is_same_text}
use Rattle.pur_tokens.specs.Tokens.{PlainToken, text_token, start_token, end_token, empty_token, hidden_token, comment_token}

-- a tag isn't that of a picture, or its attributes pass the test
abbrev pub is_good_tag : (List Attribute → Bool) → List ℕ → List Attribute → Bool
is_good_tag test name attrs = not (is_same_text (codes "img") name) || test attrs

-- a token shows no picture, or one whose attributes pass the test
abbrev pub has_good_picture : (List Attribute → Bool) → PlainToken → Bool
has_good_picture test (text_token text) = true
has_good_picture test (start_token name attrs) = is_good_tag test name attrs
has_good_picture test (end_token name) = true
has_good_picture test (empty_token name attrs) = is_good_tag test name attrs
has_good_picture test (hidden_token name body) = true
has_good_picture test (comment_token text) = true
