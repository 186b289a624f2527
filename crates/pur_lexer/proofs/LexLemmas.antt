-- How the tokens that are read add up.
use Rattle.std.proofs.Common.{◌≡◌, ℕ, zero, suc, ◌-◌, Bool, true, false, not, cond, List, [], ◌∷◌, ◌++◌, length, drop, Option, None, Some, option_map, refl, sym, ap, ◌∙◌, arith, codes, filter, ◌<◌, ◌≤◌, IsUtf8, ⊎_elim, nat_lt}
use Rattle.std.specs.Prelude.{◌==◌, ◌&&◌, ◌||◌, IfSome, IfNone}
use Rattle.std.specs.Str.{chars}
use Rattle.std.proofs.lemmas.Bool.{cases_lt, cond-false, eq-eqb, lt-ltb, ne_eqb}
use Rattle.std.proofs.lemmas.Str.{chars-nil}
use Rattle.pur_tokens.proofs.JoiningLaws.{ends}
use Rattle.pur_laws.proofs.Texts.{some_chars, no_chars}
use Rattle.pur_tokens.specs.Joining.{joined, held_before, tokens_given, is_some_token}
use Rattle.pur_tokens.specs.Tokens.{PlainToken, plain_token, text_token, start_token, empty_token, comment_token}
use Rattle.pur_tokens.specs.declared.tokens.Token.{Token}
use Rattle.pur_attrlist.specs.Attributes.{Attribute}
use Rattle.pur_lexer.specs.Places.{begins_with, begins_with_mark, is_character, run_to, rest_from}
use Rattle.pur_lexer.specs.Tags.{Step, end_step, attribute_step, TagEnd, with_attributes, end_by_step, step_of, tag_end_behind, tag_end, with_first_of_names, lowered, ends_tag_name, is_letter}
use Rattle.pur_lexer.specs.Constructs.{Construct, gives_one, closed_by, through_mark, end_tag_of, is_hiding, is_end_mark, hidden_of, tag_by_end, tag_of, tag_or_text, markup_of, plain_text, construct_of}
use Rattle.pur_lexer.specs.Lexing.{given_behind, tokens_of}
use Rattle.pur_lexer.specs.Private.Readings.{construct_with, left_of}
use Rattle.pur_lexer.proofs.TagEndLemmas.{IsRestOf, rest_of_rest, behind, whole, further, from_place, at_rest, GoesOn, step_of-goes}

-- each construct ends at a rest of the text
closed_by-rest : (mark : List ℕ) (token : PlainToken) (t : List ℕ) → IsRestOf (closed_by mark token t).rest t
closed_by-rest mark token [] = whole []
closed_by-rest mark token (c ∷ t) = behind (length mark) (c ∷ t)

through_mark-rest : (mark : List ℕ) (token : List ℕ → PlainToken) (t : List ℕ) → IsRestOf (through_mark mark token t).rest t
unfolding through_mark
through_mark-rest mark token t =
    rest_of_rest _ (rest_from (begins_with_mark mark) t) t
    (closed_by-rest mark (token (run_to (begins_with_mark mark) t)) (rest_from (begins_with_mark mark) t)) (from_place (begins_with_mark mark) t)

none_rest : (t : List ℕ) → IsRestOf [] t
none_rest [] = whole []
none_rest (c ∷ t) = further c [] t (none_rest t)

hidden_of-rest : (name t : List ℕ) → IsRestOf (hidden_of name t).rest t
unfolding hidden_of
hidden_of-rest name t =
    let end = rest_from (is_end_mark name) t in
    let close = rest_from (begins_with (is_character 0x3E)) end in
    rest_of_rest (drop 1 close) close t (behind 1 close) (rest_of_rest close end t (from_place (begins_with (is_character 0x3E)) end) (from_place (is_end_mark name) t))

-- and so does a tag
abbrev EndsIn : Option TagEnd → List ℕ → Type 0
EndsIn found t = IfSome found (λ tag. IsRestOf tag.rest t)

ends_further : (c : ℕ) (t : List ℕ) (found : Option TagEnd) → EndsIn found t → EndsIn found (c ∷ t)
ends_further c t None h = h
ends_further c t (Some tag) h = further c tag.rest t h

ends_with_more : (pairs : List Attribute) (t : List ℕ) (found : Option TagEnd) → EndsIn found t → EndsIn (option_map (with_attributes pairs) found) t
ends_with_more pairs t None h = h
ends_with_more pairs t (Some tag) h = h

ends_by_step : (s : Step) (t : List ℕ) (later : List ℕ → Option TagEnd) → GoesOn s t → ((r : List ℕ) → EndsIn (later r) t) → EndsIn (end_by_step s later) t
ends_by_step (end_step is_empty rest) t later h all = h
ends_by_step (attribute_step read) t later h all = ends_with_more read.pairs t (later read.rest) (all read.rest)

tag_end_behind-rest : (n : ℕ) (t : List ℕ) → EndsIn (tag_end_behind n t) t
unfolding tag_end_behind
tag_end_behind-rest n [] = tt
tag_end_behind-rest (suc n) (c ∷ t) = ends_further c t (tag_end_behind n t) (tag_end_behind-rest n t)
tag_end_behind-rest zero (c ∷ t) =
    ends_further c t _ (ends_by_step (step_of (c ∷ t)) t (λ rest. tag_end_behind (length t - length rest) t) (step_of-goes c t) (λ r. tag_end_behind-rest (length t - length r) t))

tag_end-rest : (t : List ℕ) → EndsIn (tag_end t) t
unfolding tag_end
tag_end-rest t = by (tag_end_behind 0 t) (tag_end_behind-rest 0 t)
  where
    by : (found : Option TagEnd) → EndsIn found t → EndsIn (option_map with_first_of_names found) t
    by None h = h
    by (Some tag) h = h

tag_by_end-rest : (name : List ℕ) (found : Option TagEnd) (t : List ℕ) → EndsIn found t → IsRestOf (tag_by_end name found).rest t
tag_by_end-rest name None t h = none_rest t
tag_by_end-rest name (Some tag) t h = by tag.is_empty (is_hiding name)
  where
    by : (a b : Bool) → IsRestOf (cond a (gives_one (empty_token name tag.attrs) tag.rest) (cond b (hidden_of name tag.rest) (gives_one (start_token name tag.attrs) tag.rest))).rest t
    by true b = h
    by false true = rest_of_rest _ tag.rest t (hidden_of-rest name tag.rest) h
    by false false = h

tag_of-rest : (t : List ℕ) → IsRestOf (tag_of t).rest t
unfolding tag_of
tag_of-rest t =
    let end = rest_from (begins_with ends_tag_name) t in
    rest_of_rest _ end t (tag_by_end-rest (lowered (run_to (begins_with ends_tag_name) t)) (tag_end end) end (tag_end-rest end)) (from_place (begins_with ends_tag_name) t)

tag_or_text-rest : (t : List ℕ) → IsRestOf (tag_or_text t).rest t
unfolding tag_or_text
tag_or_text-rest t = by (begins_with (is_character 0x2F) t && begins_with is_letter (drop 1 t)) (begins_with is_letter t)
  where
    by : (a b : Bool) → IsRestOf (cond a (through_mark (codes ">") end_tag_of (drop 1 t)) (cond b (tag_of t) (gives_one (text_token (codes "<")) t))).rest t
    by true b = rest_of_rest _ (drop 1 t) t (through_mark-rest (codes ">") end_tag_of (drop 1 t)) (behind 1 t)
    by false true = tag_of-rest t
    by false false = whole t

markup_of-rest : (t : List ℕ) → IsRestOf (markup_of t).rest t
unfolding markup_of
markup_of-rest t = by (begins_with_mark (codes "!--") t) (begins_with_mark (codes "![CDATA[") t) (begins_with (is_character 0x21) t || begins_with (is_character 0x3F) t)
  where
    by : (a b d : Bool) → IsRestOf (cond a (through_mark (codes "-->") comment_token (drop 3 t)) (cond b (through_mark (codes "]]>") text_token (drop 8 t))
        (cond d (through_mark (codes ">") comment_token (drop 1 t)) (tag_or_text t)))).rest t
    by true b d = rest_of_rest _ (drop 3 t) t (through_mark-rest (codes "-->") comment_token (drop 3 t)) (behind 3 t)
    by false true d = rest_of_rest _ (drop 8 t) t (through_mark-rest (codes "]]>") text_token (drop 8 t)) (behind 8 t)
    by false false true = rest_of_rest _ (drop 1 t) t (through_mark-rest (codes ">") comment_token (drop 1 t)) (behind 1 t)
    by false false false = tag_or_text-rest t

-- what follows a construct is read from its rest on
given_passed : (k : ℕ) (t : List ℕ) → given_behind k t ≡ given_behind 0 (drop k t)
unfolding given_behind
given_passed zero t = refl
given_passed (suc k) [] = refl
given_passed (suc k) (c ∷ t) = given_passed k t

given_rest : (gives : List PlainToken) (rest t : List ℕ) → IsRestOf rest t → gives ++ given_behind (length t - length rest) t ≡ gives ++ given_behind 0 rest
given_rest gives rest t h = ap (λ (l : List PlainToken). gives ++ l) (given_passed (length t - length rest) t ∙ ap (given_behind 0) (at_rest rest t h))

plain_text-rest : (c : ℕ) (t : List ℕ) → (c == 0x3C) ≡ false → IsRestOf (plain_text (c ∷ t)).rest t
unfolding rest_from
plain_text-rest c t other = rw other (from_place (begins_with (is_character 0x3C)) t)

construct_of-rest : (c : ℕ) (t : List ℕ) → IsRestOf (construct_of (c ∷ t)).rest t
unfolding construct_of
construct_of-rest c t = by (c == 0x3C) refl
  where
    by : (b : Bool) → (c == 0x3C) ≡ b → IsRestOf (cond b (markup_of t) (plain_text (c ∷ t))).rest t
    by true is = markup_of-rest t
    by false other = plain_text-rest c t other

-- the constructs of a text are the first, and those of the text behind it
pub given-first : (c : ℕ) (t : List ℕ) → given_behind 0 (c ∷ t) ≡ (construct_of (c ∷ t)).gives ++ given_behind 0 (construct_of (c ∷ t)).rest
unfolding given_behind
given-first c t = given_rest (construct_of (c ∷ t)).gives (construct_of (c ∷ t)).rest t (construct_of-rest c t)

pub given-construct : (token : Option Token) (text rest : List ℕ) → 0 < length text → construct_with (option_map plain_token token) rest ≡ construct_of text
    → tokens_given token ++ given_behind 0 rest ≡ given_behind 0 text
given-construct token [] rest some e = absurd (omega arith)
given-construct token (c ∷ text) rest some e = by token e ∙ sym (given-first c text)
  where
    by : (token : Option Token) → construct_with (option_map plain_token token) rest ≡ construct_of (c ∷ text)
        → tokens_given token ++ given_behind 0 rest ≡ (construct_of (c ∷ text)).gives ++ given_behind 0 (construct_of (c ∷ text)).rest
    by None e = ap (λ (x : Construct). x.gives ++ given_behind 0 x.rest) e
    by (Some token) e = ap (λ (x : Construct). x.gives ++ given_behind 0 x.rest) e

-- a text that begins with a `<`, and one that doesn't
pub construct-markup : (t : List ℕ) → construct_of (0x3C ∷ t) ≡ markup_of t
unfolding construct_of
construct-markup t = refl

pub construct-plain : (t : List ℕ) → begins_with (is_character 0x3C) t ≡ false → construct_of t ≡ plain_text t
unfolding construct_of
construct-plain t other = rw other refl

-- such a run has characters
pub run-some : (text run : List ℕ) → IsUtf8 text → 0 < length text → begins_with (is_character 0x3C) (chars text) ≡ false
    → chars run ≡ run_to (begins_with (is_character 0x3C)) (chars text) → 0 < length run
unfolding run_to
run-some text [] is some other e = by (chars text) (some_chars text is some) other (sym chars-nil ∙ e)
  where
    by : (cs : List ℕ) → 0 < length cs → begins_with (is_character 0x3C) cs ≡ false → [] ≡ run_to (begins_with (is_character 0x3C)) cs → 0 < 0
    by [] some other e = absurd (omega arith)
    by (c ∷ cs) some other e = absurd (let f : [] ≡ c ∷ run_to (begins_with (is_character 0x3C)) cs = e ∙ cond-false _ _ _ other in cc)
run-some text (b ∷ run) is some other e = omega arith

-- an empty text has no characters
pub empty-some : (bytes : List ℕ) → IsUtf8 bytes → (length bytes == 0) ≡ not (nat_lt 0 (length (chars bytes)))
empty-some bytes is = ⊎_elim
    (λ (some : 0 < length bytes). ne_eqb _ _ (λ none. omega arith) ∙ sym (ap not (lt-ltb 0 _ (some_chars bytes is some))))
    (λ (none : length bytes ≤ 0).
    let empty : length bytes ≡ 0 = omega arith in
    eq-eqb _ _ empty ∙ sym (ap (λ l. not (nat_lt 0 (length l))) (no_chars bytes empty)))
    (cases_lt 0 (length bytes))

-- what is left is what is given next, and what is left behind it
pub left-next : (before after : Option PlainToken) (token given : Option Token) (text rest : List ℕ)
    → ((more : List PlainToken) → held_before before (joined (filter is_some_token (tokens_given token ++ more)))
    ≡ tokens_given given ++ held_before after (joined (filter is_some_token more)))
    → tokens_given token ++ given_behind 0 rest ≡ given_behind 0 text
    → left_of before text ≡ tokens_given given ++ left_of after rest
unfolding tokens_of
left-next before after token given text rest step e =
    ap (λ (tokens : List PlainToken). held_before before (joined (filter is_some_token tokens))) (sym e) ∙ step (given_behind 0 rest)

-- behind the text what is held is given, and then nothing is left
pub left-some : (held after : Option PlainToken) (given : Option Token) (text : List ℕ) (found : List PlainToken) → text ≡ [] → option_map plain_token given ≡ held
    → after ≡ None → left_of held text ≡ found → IfSome given (λ token. found ≡ plain_token token ∷ left_of after text)
unfolding tokens_of given_behind joined
left-some held after None text found none is gone e = tt
left-some held after (Some token) text found none is gone e =
    sym e ∙ (λ i. left_of (is' i) (none i)) ∙ ends (plain_token token) [] refl ∙ (λ i. plain_token token ∷ left_of (gone' i) (none' i))
  where
    is' : held ≡ Some (plain_token token)
    is' = sym is

    gone' : None ≡ after
    gone' = sym gone

    none' : [] ≡ text
    none' = sym none

pub left-none : (held : Option PlainToken) (given : Option Token) (text : List ℕ) (found : List PlainToken) → text ≡ [] → option_map plain_token given ≡ held
    → left_of held text ≡ found → IfNone given (found ≡ [])
unfolding tokens_of given_behind joined
left-none held None text found none is e = sym e ∙ (λ i. left_of (is' i) (none i))
  where
    is' : held ≡ None
    is' = sym is
left-none held (Some token) text found none is e = tt
