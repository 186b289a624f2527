-- Tags in which no attribute's name comes twice.
use Rattle.std.specs.Prelude.{Bool, true}
use Rattle.pur_attrlist.specs.Attributes.{is_distinct}
use Rattle.pur_tokens.specs.Tokens.{PlainToken, text_token, start_token, end_token, empty_token, hidden_token, comment_token}

-- whether no name comes twice among the attributes that a token shows (XML 1.0, section 3.1: the constraint on unique attributes)
abbrev pub shows_distinct : PlainToken → Bool
shows_distinct (text_token text) = true
shows_distinct (start_token name attrs) = is_distinct attrs
shows_distinct (end_token name) = true
shows_distinct (empty_token name attrs) = is_distinct attrs
shows_distinct (hidden_token name body) = true
shows_distinct (comment_token text) = true
