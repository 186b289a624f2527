-- The definitions on small texts.
use Rattle.std.proofs.Common.{◌≡◌, true, List, [], ◌∷◌, codes, flat_map, refl}
use Rattle.std.specs.List.{list_all}
use Rattle.pur_entities.specs.References.{decoded, decoded_behind}
use Rattle.pur_tokens.specs.Tokens.{PlainToken, text_token, start_token, end_token, empty_token, hidden_token, comment_token}
use Rattle.pur_lexer.specs.Places.{run_to, rest_from}
use Rattle.pur_lexer.specs.Tags.{raw_value, attribute_behind, named_attribute, attribute_at, ends_with_slash, step_behind, step_of, tag_end_behind, tag_end}
use Rattle.pur_lexer.specs.Constructs.{through_mark, begins_with_name, is_end_mark, hidden_of, tag_of, tag_or_text, markup_of, construct_of}
use Rattle.pur_tokens.specs.Joining.{joined}
use Rattle.pur_lexer.specs.Lexing.{given_behind, tokens_of}
use Rattle.pur_lexer.specs.Written.{written, is_writable}

comment_between : tokens_of (codes "a<!--b-->c") ≡ text_token (codes "a") ∷ comment_token (codes "b") ∷ text_token (codes "c") ∷ []
unfolding tokens_of joined given_behind construct_of markup_of through_mark run_to rest_from decoded decoded_behind
comment_between = refl

data_joins : tokens_of (codes "a<![CDATA[<]]>b") ≡ text_token (codes "a<b") ∷ []
unfolding tokens_of joined given_behind construct_of markup_of through_mark run_to rest_from decoded decoded_behind
data_joins = refl

first_name_kept : tokens_of (codes "<P A=x a=y/>") ≡ start_token (codes "p") ((codes "a", codes "x") ∷ []) ∷ []
unfolding tokens_of joined given_behind construct_of markup_of tag_or_text tag_of tag_end tag_end_behind step_of step_behind attribute_at named_attribute attribute_behind raw_value ends_with_slash run_to rest_from decoded decoded_behind
first_name_kept = refl

slash_ends : tokens_of (codes "<br />") ≡ empty_token (codes "br") [] ∷ []
unfolding tokens_of joined given_behind construct_of markup_of tag_or_text tag_of tag_end tag_end_behind step_of step_behind ends_with_slash run_to rest_from
slash_ends = refl

mark_without_end : tokens_of (codes "<script>a</script ") ≡ hidden_token (codes "script") (codes "a") ∷ []
unfolding tokens_of joined given_behind construct_of markup_of tag_or_text tag_of tag_end tag_end_behind step_of step_behind ends_with_slash hidden_of is_end_mark begins_with_name run_to rest_from
mark_without_end = refl

line_break : List PlainToken
line_break =
    start_token (codes "p") ((codes "id", codes "a") ∷ []) ∷ text_token (codes "b") ∷ empty_token (codes "br") [] ∷ end_token (codes "p") ∷ []

break_is_written : flat_map written line_break ≡ codes "<p id=\"a\">b<br /></p>"
unfolding line_break
break_is_written = refl

break_is_writable : list_all is_writable line_break ≡ true
unfolding line_break decoded decoded_behind
break_is_writable = refl
