-- No attribute's name comes twice in a tag that is read.
use Rattle.std.proofs.Common.{◌≡◌, ℕ, zero, suc, ◌-◌, true, List, [], ◌∷◌, length, drop, filter, Option, None, Some, IfSome, refl}
use Rattle.std.specs.Prelude.{◌&&◌, ◌||◌, option_map, codes}
use Rattle.std.specs.List.{list_all}
use Rattle.std.proofs.lemmas.Bool.{and_from}
use Rattle.pur_laws.proofs.Truth.{either}
use Rattle.pur_laws.proofs.Lists.{all-append, all-filter}
use Rattle.pur_attrlist.specs.Attributes.{is_distinct}
use Rattle.pur_tokens.specs.Distinct.{shows_distinct}
use Rattle.pur_tokens.specs.Joining.{is_some_token}
use Rattle.pur_tokens.specs.Tokens.{PlainToken, text_token, start_token, empty_token, hidden_token, comment_token}
use Rattle.pur_attrlist.proofs.DistinctLaws.{is_distinct-first}
use Rattle.pur_tokens.proofs.JoiningLaws.{all-joined}
use Rattle.pur_lexer.specs.Places.{begins_with, begins_with_mark, is_character, run_to, rest_from}
use Rattle.pur_lexer.specs.Tags.{lowered, is_letter, ends_tag_name, TagEnd, tag_end_behind, with_first_of_names, tag_end}
use Rattle.pur_lexer.specs.Constructs.{Construct, closed_by, through_mark, end_tag_of, is_hiding, is_end_mark, hidden_of, tag_by_end, tag_of, tag_or_text, markup_of, construct_of}
use Rattle.pur_lexer.specs.Lexing.{given_behind, tokens_of}

abbrev Gives : Construct → Type 0
Gives construct = list_all shows_distinct construct.gives ≡ true

one_token : (token : PlainToken) → shows_distinct token ≡ true → list_all shows_distinct (token ∷ []) ≡ true
one_token token is = and_from (shows_distinct token) true is refl

through_distinct : (mark : List ℕ) (token : List ℕ → PlainToken) (text : List ℕ) → ((content : List ℕ) → shows_distinct (token content) ≡ true)
    → Gives (through_mark mark token text)
unfolding through_mark
through_distinct mark token text is = go (rest_from (begins_with_mark mark) text)
  where
    go : (rest : List ℕ) → Gives (closed_by mark (token (run_to (begins_with_mark mark) text)) rest)
    go [] = refl
    go (c ∷ rest) = one_token (token (run_to (begins_with_mark mark) text)) (is (run_to (begins_with_mark mark) text))

end_distinct : (text : List ℕ) → IfSome (tag_end text) (λ (tag : TagEnd). is_distinct tag.attrs ≡ true)
unfolding tag_end
end_distinct text = go (tag_end_behind 0 text)
  where
    go : (end : Option TagEnd) → IfSome (option_map with_first_of_names end) (λ (tag : TagEnd). is_distinct tag.attrs ≡ true)
    go None = tt
    go (Some tag) = is_distinct-first tag.attrs

by_end : (name : List ℕ) (end : Option TagEnd) → IfSome end (λ (tag : TagEnd). is_distinct tag.attrs ≡ true) → Gives (tag_by_end name end)
unfolding hidden_of
by_end name None end = refl
by_end name (Some tag) end =
    either Gives tag.is_empty _ _ (one_token (empty_token name tag.attrs) end)
    (either Gives (is_hiding name) _ _ refl (one_token (start_token name tag.attrs) end))

tag_distinct : (text : List ℕ) → Gives (tag_of text)
unfolding tag_of
tag_distinct text =
    by_end (lowered (run_to (begins_with ends_tag_name) text)) (tag_end (rest_from (begins_with ends_tag_name) text))
    (end_distinct (rest_from (begins_with ends_tag_name) text))

tag_or_text_distinct : (text : List ℕ) → Gives (tag_or_text text)
unfolding tag_or_text
tag_or_text_distinct text =
    either Gives (begins_with (is_character 0x2F) text && begins_with is_letter (drop 1 text)) _ _
    (through_distinct (codes ">") end_tag_of (drop 1 text) (λ content. refl))
    (either Gives (begins_with is_letter text) _ _ (tag_distinct text) refl)

markup_distinct : (text : List ℕ) → Gives (markup_of text)
unfolding markup_of
markup_distinct text =
    either Gives (begins_with_mark (codes "!--") text) _ _ (through_distinct (codes "-->") comment_token (drop 3 text) (λ content. refl))
    (either Gives (begins_with_mark (codes "![CDATA[") text) _ _ (through_distinct (codes "]]>") text_token (drop 8 text) (λ content. refl))
    (either Gives (begins_with (is_character 0x21) text || begins_with (is_character 0x3F) text) _ _
    (through_distinct (codes ">") comment_token (drop 1 text) (λ content. refl))
    (tag_or_text_distinct text)))

construct_distinct : (text : List ℕ) → Gives (construct_of text)
unfolding construct_of
construct_distinct text =
    either Gives (begins_with (is_character 0x3C) text) _ _ (markup_distinct (drop 1 text)) refl

given_distinct : (n : ℕ) (text : List ℕ) → list_all shows_distinct (given_behind n text) ≡ true
unfolding given_behind
given_distinct n [] = refl
given_distinct (suc n) (c ∷ text) = given_distinct n text
given_distinct zero (c ∷ text) =
    let construct = construct_of (c ∷ text) in
    all-append shows_distinct construct.gives (given_behind (length text - length construct.rest) text) (construct_distinct (c ∷ text))
    (given_distinct (length text - length construct.rest) text)

-- the tokens of a text
pub tokens_distinct : (text : List ℕ) → list_all shows_distinct (tokens_of text) ≡ true
unfolding tokens_of
tokens_distinct text =
    all-joined shows_distinct (λ s t one two. refl) (filter is_some_token (given_behind 0 text))
    (all-filter shows_distinct is_some_token (given_behind 0 text) (given_distinct 0 text))
