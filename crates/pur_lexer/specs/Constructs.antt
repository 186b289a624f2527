-- What begins a text, what it gives, and what follows it (XML 1.0, sections 2.4 to 2.7; HTML 4.01, section 3.2 and appendix B).
use Rattle.std.specs.Prelude.{ℕ, ◌==◌, Bool, false, ◌&&◌, ◌||◌, if◌then◌else◌, List, [], ◌∷◌, length, drop, Option, None, Some, codes}
use Rattle.std.specs.Char.{to_ascii_lowercase}
use Rattle.pur_entities.specs.References.{decoded}
use Rattle.pur_attrlist.specs.Attributes.{is_same_text}
use Rattle.pur_tokens.specs.Tokens.{PlainToken, text_token, start_token, end_token, empty_token, hidden_token, comment_token}
use Rattle.pur_lexer.specs.Places.{begins_with, begins_with_mark, is_character, run_to, rest_from}
use Rattle.pur_lexer.specs.Tags.{lowered, is_letter, ends_tag_name, TagEnd, tag_end}

-- a construct: its token, or none, and the text behind it
pub record Construct : Type 0 where
  pub gives : List PlainToken
  pub rest : List ℕ

-- a construct that meets the end of the text is dropped, and with it all to the end
abbrev pub dropped : Construct
dropped = record { gives = []; rest = [] }

-- a construct with one token
abbrev pub gives_one : PlainToken → List ℕ → Construct
gives_one token rest = record { gives = token ∷ []; rest = rest }

-- a construct by its token and by the text from its closing mark on
abbrev pub closed_by : List ℕ → PlainToken → List ℕ → Construct
closed_by mark token [] = dropped
closed_by mark token (c ∷ text) = gives_one token (drop (length mark) (c ∷ text))

-- a construct that runs through the next of these marks: what its content gives, and what follows the mark
unfoldable pub through_mark : List ℕ → (List ℕ → PlainToken) → List ℕ → Construct
through_mark mark token text =
    closed_by mark (token (run_to (begins_with_mark mark) text)) (rest_from (begins_with_mark mark) text)

-- an end tag by what stands between `</` and `>`: its name runs to white space, `/` or the end, and is lowered
abbrev pub end_tag_of : List ℕ → PlainToken
end_tag_of content = end_token (lowered (run_to (begins_with ends_tag_name) content))

-- the elements whose content is hidden
abbrev pub is_hiding : List ℕ → Bool
is_hiding name = is_same_text name (codes "script") || is_same_text name (codes "style")

-- whether a text begins with the name, in any ASCII case, and then white space, `/` or `>`
unfoldable pub begins_with_name : List ℕ → List ℕ → Bool
begins_with_name [] text = begins_with ends_tag_name text
begins_with_name (n ∷ name) [] = false
begins_with_name (n ∷ name) (c ∷ text) = to_ascii_lowercase c == n && begins_with_name name text

-- whether the end mark of hidden content begins the text: `</` and this name
unfoldable pub is_end_mark : List ℕ → List ℕ → Bool
is_end_mark name text = begins_with_mark (codes "</") text && begins_with_name name (drop 2 text)

-- hidden content, from behind its start tag: the body runs to the end mark, and the whole through the next `>`; each runs to the end of
-- the text where there is none
unfoldable pub hidden_of : List ℕ → List ℕ → Construct
hidden_of name text =
    gives_one (hidden_token name (run_to (is_end_mark name) text))
    (drop 1 (rest_from (begins_with (is_character 0x3E)) (rest_from (is_end_mark name) text)))

-- a start tag, an empty tag or hidden content, by the tag's name and its end
abbrev pub tag_by_end : List ℕ → Option TagEnd → Construct
tag_by_end name None = dropped
tag_by_end name (Some tag) =
    if tag.is_empty then gives_one (empty_token name tag.attrs) tag.rest
    else (if is_hiding name then hidden_of name tag.rest else gives_one (start_token name tag.attrs) tag.rest)

-- what a `<` and a letter begin; the text is that behind the `<`
unfoldable pub tag_of : List ℕ → Construct
tag_of text =
    tag_by_end (lowered (run_to (begins_with ends_tag_name) text)) (tag_end (rest_from (begins_with ends_tag_name) text))

-- a tag, where a `<` begins one before this text, and else the text `<`
unfoldable pub tag_or_text : List ℕ → Construct
tag_or_text text =
    if begins_with (is_character 0x2F) text && begins_with is_letter (drop 1 text) then through_mark (codes ">") end_tag_of (drop 1 text)
    else (if begins_with is_letter text then tag_of text
    else gives_one (text_token (codes "<")) text)

-- what a `<` begins before this text, by the first row that applies
unfoldable pub markup_of : List ℕ → Construct
markup_of text =
    if begins_with_mark (codes "!--") text then through_mark (codes "-->") comment_token (drop 3 text)
    else (if begins_with_mark (codes "![CDATA[") text then through_mark (codes "]]>") text_token (drop 8 text)
    else (if begins_with (is_character 0x21) text || begins_with (is_character 0x3F) text then through_mark (codes ">") comment_token (drop 1 text)
    else tag_or_text text))

-- any other text runs to the next `<`, and its references are read
abbrev pub plain_text : List ℕ → Construct
plain_text text =
    gives_one (text_token (decoded (run_to (begins_with (is_character 0x3C)) text))) (rest_from (begins_with (is_character 0x3C)) text)

-- what begins a text
unfoldable pub construct_of : List ℕ → Construct
construct_of text = if begins_with (is_character 0x3C) text then markup_of (drop 1 text) else plain_text text
