-- What a text of allowed characters is cut into has allowed characters alone.
use Rattle.std.proofs.Common.{◌≡◌, ℕ, zero, suc, ◌-◌, true, List, [], ◌∷◌, length, drop, filter, Option, None, Some, IfSome, refl, ◌∙◌, arith}
use Rattle.std.specs.Prelude.{Bool, ◌&&◌, ◌||◌, not, option_map, codes}
use Rattle.std.specs.Char.{to_ascii_lowercase}
use Rattle.std.specs.List.{list_all}
use Rattle.std.proofs.lemmas.Bool.{and_parts, and_from}
use Rattle.std.proofs.lemmas.Bool.Decides.{nat_tests}
use Rattle.std.proofs.lemmas.List.Folds.{list_all-map}
use Rattle.pur_laws.proofs.Truth.{either}
use Rattle.pur_laws.proofs.Lists.{all-append, all-drop, all-filter, all-weaker}
use Rattle.pur_text.specs.Characters.{is_allowed}
use Rattle.pur_entities.specs.References.{decoded}
use Rattle.pur_entities.proofs.ReferenceLemmas.{decoded-allowed}
use Rattle.pur_attrlist.specs.Attributes.{Attribute, is_same_text, without, first_of_names}
use Rattle.pur_tokens.specs.Characters.{attribute_has_only, token_has_only}
use Rattle.pur_tokens.specs.Joining.{is_some_token}
use Rattle.pur_tokens.proofs.JoiningLaws.{only-joined}
use Rattle.pur_tokens.specs.Tokens.{PlainToken, text_token, start_token, empty_token, hidden_token, comment_token}
use Rattle.pur_lexer.specs.Places.{begins_with, begins_with_mark, is_character, run_to, rest_from}
use Rattle.pur_lexer.specs.Tags.{lowered, is_letter, ends_tag_name, ends_attribute_name, ends_gap, ends_space, ends_bare_value, RawValue, quoted_value, bare_value, raw_value, ReadAttributes, with_raw_value, attribute_behind, named_attribute, attribute_at, Step, end_step, attribute_step, step_behind, step_of, TagEnd, with_attributes, end_by_step, tag_end_behind, with_first_of_names, tag_end}
use Rattle.pur_lexer.specs.Constructs.{Construct, closed_by, through_mark, end_tag_of, is_hiding, is_end_mark, hidden_of, tag_by_end, tag_of, tag_or_text, markup_of, construct_of}
use Rattle.pur_lexer.specs.Lexing.{given_behind, tokens_of}

-- a text has allowed characters alone
abbrev Allowed : List ℕ → Type 0
Allowed text = list_all is_allowed text ≡ true

-- ---- texts that are cut

run_allowed : (test : List ℕ → Bool) (text : List ℕ) → Allowed text → Allowed (run_to test text)
unfolding run_to
run_allowed test [] all = refl
run_allowed test (c ∷ text) all =
    let parts = and_parts (is_allowed c) (list_all is_allowed text) all in
    either Allowed (test (c ∷ text)) [] (c ∷ run_to test text) refl
    (and_from (is_allowed c) (list_all is_allowed (run_to test text)) parts.0 (run_allowed test text parts.1))

rest_allowed : (test : List ℕ → Bool) (text : List ℕ) → Allowed text → Allowed (rest_from test text)
unfolding rest_from
rest_allowed test [] all = refl
rest_allowed test (c ∷ text) all =
    either Allowed (test (c ∷ text)) (c ∷ text) (rest_from test text) all
    (rest_allowed test text (and_parts (is_allowed c) (list_all is_allowed text) all).1)

drop_allowed : (n : ℕ) (text : List ℕ) → Allowed text → Allowed (drop n text)
drop_allowed n text all = all-drop is_allowed n text all

lower_allowed : (c : ℕ) → is_allowed c ≡ true → is_allowed (to_ascii_lowercase c) ≡ true
lower_allowed c all = grind (arith, nat_tests)

lowered_allowed : (text : List ℕ) → Allowed text → Allowed (lowered text)
lowered_allowed text all =
    list_all-map is_allowed to_ascii_lowercase text
    ∙ all-weaker is_allowed (λ c. is_allowed (to_ascii_lowercase c)) lower_allowed text all

-- ---- tags

record IsRawAllowed (raw : RawValue) : Type 0 where
  value : Allowed raw.value
  rest : Allowed raw.rest

raw_allowed : (text : List ℕ) → Allowed text → IsRawAllowed (raw_value text)
unfolding raw_value
raw_allowed text all =
    either IsRawAllowed (begins_with (is_character 0x22) text) _ _ (quoted 0x22)
    (either IsRawAllowed (begins_with (is_character 0x27) text) _ _ (quoted 0x27) bare)
  where
    quoted : (quote : ℕ) → IsRawAllowed (quoted_value quote (drop 1 text))
    quoted quote = record {
      value = run_allowed (begins_with (is_character quote)) (drop 1 text) (drop_allowed 1 text all);
      rest = drop_allowed 1 (rest_from (begins_with (is_character quote)) (drop 1 text)) (rest_allowed (begins_with (is_character quote)) (drop 1 text) (drop_allowed 1 text all));
    }

    bare : IsRawAllowed (bare_value text)
    bare = record {
      value = run_allowed (begins_with ends_bare_value) text all;
      rest = rest_allowed (begins_with ends_bare_value) text all;
    }

-- attributes have allowed characters alone
abbrev PairsAllowed : List Attribute → Type 0
PairsAllowed pairs = list_all (attribute_has_only is_allowed) pairs ≡ true

one_pair : (name value : List ℕ) → Allowed name → Allowed value → PairsAllowed ((name, value) ∷ [])
one_pair name value n v =
    and_from (list_all is_allowed name && list_all is_allowed value) true
    (and_from (list_all is_allowed name) (list_all is_allowed value) n v) refl

valued : (name text : List ℕ) → Allowed name → Allowed text → PairsAllowed (with_raw_value name (raw_value text)).pairs
valued name text n all =
    one_pair name (decoded (raw_value text).value) n (decoded-allowed (raw_value text).value (raw_allowed text all).value)

behind_allowed : (name text : List ℕ) → Allowed name → Allowed text → PairsAllowed (attribute_behind name text).pairs
unfolding attribute_behind
behind_allowed name text n all =
    either (λ (read : ReadAttributes). PairsAllowed read.pairs) (begins_with (is_character 0x3D) text) _ _
    (valued name (rest_from (begins_with ends_space) (drop 1 text)) n (rest_allowed (begins_with ends_space) (drop 1 text) (drop_allowed 1 text all)))
    (one_pair name name n n)

named_allowed : (name text : List ℕ) → Allowed name → Allowed text → PairsAllowed (named_attribute name text).pairs
unfolding named_attribute
named_allowed [] text n all = refl
named_allowed (c ∷ name) text n all =
    behind_allowed (lowered (c ∷ name)) (rest_from (begins_with ends_space) text) (lowered_allowed (c ∷ name) n) (rest_allowed (begins_with ends_space) text all)

attribute_allowed : (text : List ℕ) → Allowed text → PairsAllowed (attribute_at text).pairs
unfolding attribute_at
attribute_allowed text all =
    named_allowed (run_to (begins_with ends_attribute_name) text) (rest_from (begins_with ends_attribute_name) text) (run_allowed (begins_with ends_attribute_name) text all) (rest_allowed (begins_with ends_attribute_name) text all)

-- how a tag goes on
abbrev StepAllowed : Step → Type 0
StepAllowed (end_step is_empty rest) = Allowed rest
StepAllowed (attribute_step read) = PairsAllowed read.pairs

step_allowed : (text : List ℕ) → Allowed text → StepAllowed (step_of text)
unfolding step_of step_behind
step_allowed text all =
    let rest = rest_from (begins_with ends_gap) text in
    let behind : Allowed rest = rest_allowed (begins_with ends_gap) text all in
    either StepAllowed (begins_with (is_character 0x3E) rest) _ _ (drop_allowed 1 rest behind) (attribute_allowed rest behind)

-- how it ends
record IsEndAllowed (tag : TagEnd) : Type 0 where
  attrs : PairsAllowed tag.attrs
  rest : Allowed tag.rest

with_more : (pairs : List Attribute) (end : Option TagEnd) → PairsAllowed pairs → IfSome end IsEndAllowed
    → IfSome (option_map (with_attributes pairs) end) IsEndAllowed
with_more pairs None all end = tt
with_more pairs (Some tag) all end =
    record { attrs = all-append (attribute_has_only is_allowed) pairs tag.attrs all end.attrs; rest = end.rest }

by_step : (step : Step) (later : List ℕ → Option TagEnd) → StepAllowed step → ((rest : List ℕ) → IfSome (later rest) IsEndAllowed)
    → IfSome (end_by_step step later) IsEndAllowed
by_step (end_step is_empty rest) later all more = record { attrs = refl; rest = all }
by_step (attribute_step read) later all more = with_more read.pairs (later read.rest) all (more read.rest)

end_allowed_behind : (n : ℕ) (text : List ℕ) → Allowed text → IfSome (tag_end_behind n text) IsEndAllowed
unfolding tag_end_behind
end_allowed_behind n [] all = tt
end_allowed_behind (suc n) (c ∷ text) all = end_allowed_behind n text (and_parts (is_allowed c) (list_all is_allowed text) all).1
end_allowed_behind zero (c ∷ text) all =
    by_step (step_of (c ∷ text)) _ (step_allowed (c ∷ text) all)
    (λ rest. end_allowed_behind (length text - length rest) text (and_parts (is_allowed c) (list_all is_allowed text) all).1)

first_allowed : (pairs : List Attribute) → PairsAllowed pairs → PairsAllowed (first_of_names pairs)
first_allowed [] all = refl
first_allowed (pair ∷ pairs) all =
    let parts = and_parts (attribute_has_only is_allowed pair) (list_all (attribute_has_only is_allowed) pairs) all in
    and_from (attribute_has_only is_allowed pair) (list_all (attribute_has_only is_allowed) (without (first_of_names pairs) pair.0)) parts.0
    (all-filter (attribute_has_only is_allowed) (λ other. not (is_same_text pair.0 other.0)) (first_of_names pairs) (first_allowed pairs parts.1))

end_allowed : (text : List ℕ) → Allowed text → IfSome (tag_end text) IsEndAllowed
unfolding tag_end
end_allowed text all = by (tag_end_behind 0 text) (end_allowed_behind 0 text all)
  where
    by : (end : Option TagEnd) → IfSome end IsEndAllowed → IfSome (option_map with_first_of_names end) IsEndAllowed
    by None end = tt
    by (Some tag) end = record { attrs = first_allowed tag.attrs end.attrs; rest = end.rest }

-- ---- constructs

-- tokens have allowed characters alone
abbrev TokensAllowed : List PlainToken → Type 0
TokensAllowed tokens = list_all (token_has_only is_allowed) tokens ≡ true

abbrev GivesAllowed : Construct → Type 0
GivesAllowed construct = TokensAllowed construct.gives

one_token : (token : PlainToken) → token_has_only is_allowed token ≡ true → TokensAllowed (token ∷ [])
one_token token all = and_from (token_has_only is_allowed token) true all refl

closed_allowed : (mark : List ℕ) (token : PlainToken) (text : List ℕ) → token_has_only is_allowed token ≡ true → GivesAllowed (closed_by mark token text)
closed_allowed mark token [] all = refl
closed_allowed mark token (c ∷ text) all = one_token token all

through_allowed : (mark : List ℕ) (token : List ℕ → PlainToken) (text : List ℕ)
    → ((content : List ℕ) → Allowed content → token_has_only is_allowed (token content) ≡ true) → Allowed text
    → GivesAllowed (through_mark mark token text)
unfolding through_mark
through_allowed mark token text keeps all =
    closed_allowed mark (token (run_to (begins_with_mark mark) text)) (rest_from (begins_with_mark mark) text)
    (keeps (run_to (begins_with_mark mark) text) (run_allowed (begins_with_mark mark) text all))

ended_allowed : (content : List ℕ) → Allowed content → token_has_only is_allowed (end_tag_of content) ≡ true
ended_allowed content all = lowered_allowed (run_to (begins_with ends_tag_name) content) (run_allowed (begins_with ends_tag_name) content all)

hidden_allowed : (name text : List ℕ) → Allowed name → Allowed text → GivesAllowed (hidden_of name text)
unfolding hidden_of
hidden_allowed name text n all =
    one_token (hidden_token name (run_to (is_end_mark name) text)) (and_from (list_all is_allowed name) (list_all is_allowed (run_to (is_end_mark name) text)) n (run_allowed (is_end_mark name) text all))

tag_allowed_by_end : (name : List ℕ) (end : Option TagEnd) → Allowed name → IfSome end IsEndAllowed → GivesAllowed (tag_by_end name end)
tag_allowed_by_end name None n end = refl
tag_allowed_by_end name (Some tag) n end =
    let both = and_from (list_all is_allowed name) (list_all (attribute_has_only is_allowed) tag.attrs) n end.attrs in
    either GivesAllowed tag.is_empty _ _ (one_token (empty_token name tag.attrs) both)
    (either GivesAllowed (is_hiding name) _ _ (hidden_allowed name tag.rest n end.rest) (one_token (start_token name tag.attrs) both))

tag_allowed : (text : List ℕ) → Allowed text → GivesAllowed (tag_of text)
unfolding tag_of
tag_allowed text all =
    let name = run_to (begins_with ends_tag_name) text in
    let rest = rest_from (begins_with ends_tag_name) text in
    tag_allowed_by_end (lowered name) (tag_end rest) (lowered_allowed name (run_allowed (begins_with ends_tag_name) text all))
    (end_allowed rest (rest_allowed (begins_with ends_tag_name) text all))

tag_or_text_allowed : (text : List ℕ) → Allowed text → GivesAllowed (tag_or_text text)
unfolding tag_or_text
tag_or_text_allowed text all =
    either GivesAllowed (begins_with (is_character 0x2F) text && begins_with is_letter (drop 1 text)) _ _
    (through_allowed (codes ">") end_tag_of (drop 1 text) ended_allowed (drop_allowed 1 text all))
    (either GivesAllowed (begins_with is_letter text) _ _ (tag_allowed text all) refl)

markup_allowed : (text : List ℕ) → Allowed text → GivesAllowed (markup_of text)
unfolding markup_of
markup_allowed text all =
    either GivesAllowed (begins_with_mark (codes "!--") text) _ _ (through_allowed (codes "-->") comment_token (drop 3 text) (λ content is. is) (drop_allowed 3 text all))
    (either GivesAllowed (begins_with_mark (codes "![CDATA[") text) _ _ (through_allowed (codes "]]>") text_token (drop 8 text) (λ content is. is) (drop_allowed 8 text all))
    (either GivesAllowed (begins_with (is_character 0x21) text || begins_with (is_character 0x3F) text) _ _
    (through_allowed (codes ">") comment_token (drop 1 text) (λ content is. is) (drop_allowed 1 text all))
    (tag_or_text_allowed text all)))

construct_allowed : (text : List ℕ) → Allowed text → GivesAllowed (construct_of text)
unfolding construct_of
construct_allowed text all =
    either GivesAllowed (begins_with (is_character 0x3C) text) _ _ (markup_allowed (drop 1 text) (drop_allowed 1 text all))
    (one_token (text_token (decoded (run_to (begins_with (is_character 0x3C)) text))) (decoded-allowed (run_to (begins_with (is_character 0x3C)) text) (run_allowed (begins_with (is_character 0x3C)) text all)))

-- ---- tokens

given_allowed : (n : ℕ) (text : List ℕ) → Allowed text → TokensAllowed (given_behind n text)
unfolding given_behind
given_allowed n [] all = refl
given_allowed (suc n) (c ∷ text) all = given_allowed n text (and_parts (is_allowed c) (list_all is_allowed text) all).1
given_allowed zero (c ∷ text) all =
    let construct = construct_of (c ∷ text) in
    all-append (token_has_only is_allowed) construct.gives (given_behind (length text - length construct.rest) text) (construct_allowed (c ∷ text) all)
    (given_allowed (length text - length construct.rest) text (and_parts (is_allowed c) (list_all is_allowed text) all).1)

-- the tokens of a text of allowed characters have allowed characters alone
pub tokens_allowed : (text : List ℕ) → list_all is_allowed text ≡ true → list_all (token_has_only is_allowed) (tokens_of text) ≡ true
unfolding tokens_of
tokens_allowed text all =
    only-joined is_allowed (filter is_some_token (given_behind 0 text))
    (all-filter (token_has_only is_allowed) is_some_token (given_behind 0 text) (given_allowed 0 text all))
