-- What tokens are written as is read as these tokens.
use Rattle.std.proofs.Common.{◌≡◌, ℕ, Bool, true, false, not, cond, List, [], ◌∷◌, ◌++◌, length, drop, map, filter, flat_map, Some, option_map, refl, sym, ap, ◌∙◌, arith, codes, append_assoc, nat_eq, true≢false, lit<, append-nil, ◌<◌}
use Rattle.std.specs.Prelude.{◌==◌, ◌&&◌, ◌||◌, nat_lt}
use Rattle.std.specs.Char.{to_ascii_lowercase}
use Rattle.std.specs.List.{list_all}
use Rattle.std.proofs.lemmas.Bool.{and_parts, not-true}
use Rattle.std.proofs.lemmas.Bool.Decides.{nat_tests}
use Rattle.std.proofs.lemmas.Simd.{map-map}
use Rattle.pur_laws.proofs.Cases.{lowered-same}
use Rattle.pur_laws.proofs.Lists.{all-weaker}
use Rattle.pur_laws.proofs.Truth.{and_true}
use Rattle.pur_text.specs.Characters.{is_space}
use Rattle.pur_entities.specs.References.{decoded, decoded_behind}
use Rattle.pur_attrlist.specs.Attributes.{Attribute, is_distinct, without, first_of_names}
use Rattle.pur_attrlist.proofs.AttributeLaws.{is_distinct-names, first_is_new, rest_is_distinct, without-absent}
use Rattle.pur_tokens.specs.Joining.{joined, is_text, is_some_token, begins_with_text, has_no_neighbours}
use Rattle.pur_tokens.proofs.JoiningLaws.{joined-same}
use Rattle.pur_tokens.specs.Tokens.{PlainToken, text_token, start_token, end_token, empty_token, hidden_token, comment_token}
use Rattle.pur_lexer.specs.Places.{begins_with, begins_with_mark, is_character, run_to, rest_from}
use Rattle.pur_lexer.specs.Tags.{lowered, is_letter, ends_tag_name, ends_attribute_name, ends_gap, raw_value, with_raw_value, attribute_behind, named_attribute, attribute_at, Step, attribute_step, ends_with_slash, step_behind, step_of, with_attributes, end_by_step, tag_end_behind, with_first_of_names, tag_end}
use Rattle.pur_lexer.specs.Constructs.{Construct, gives_one, end_tag_of, is_hiding, tag_by_end, tag_of, markup_of, construct_of}
use Rattle.pur_lexer.specs.Lexing.{given_behind, tokens_of}
use Rattle.pur_lexer.specs.Written.{
  written_attribute,
  written,
  attribute_as_read,
  as_read,
  is_capital,
  is_unbroken,
  is_writable_name,
  is_writable_attribute,
  is_writable_tag,
  is_writable,
}
use Rattle.pur_lexer.proofs.ConstructLemmas.{markup-tag, tag-end, tag-start, by-empty, by-start, through-found}
use Rattle.pur_lexer.proofs.LexLemmas.{given-first, construct-markup, construct-plain}
use Rattle.pur_lexer.proofs.TagEndLemmas.{first_step}

-- ---- runs

-- a text is empty, or begins with a character that passes the test
abbrev stops : (ℕ → Bool) → List ℕ → Bool
stops test [] = true
stops test (c ∷ t) = test c

-- a run of characters that fail, in front of such a text
module _ (test : ℕ → Bool) where
  run_written : (s t : List ℕ) → list_all (λ c. not (test c)) s ≡ true → stops test t ≡ true → run_to (begins_with test) (s ++ t) ≡ s
  unfolding run_to
  run_written [] [] none ended = refl
  run_written [] (c ∷ t) none ended = rw ended refl
  run_written (c ∷ s) t none ended =
      let parts = and_parts (not (test c)) (list_all (λ c. not (test c)) s) none in
      let fails : test c ≡ false = not-true _ parts.0 in
      rw fails (ap (λ (l : List ℕ). c ∷ l) (run_written s t parts.1 ended))

  rest_written : (s t : List ℕ) → list_all (λ c. not (test c)) s ≡ true → stops test t ≡ true → rest_from (begins_with test) (s ++ t) ≡ t
  unfolding rest_from
  rest_written [] [] none ended = refl
  rest_written [] (c ∷ t) none ended = rw ended refl
  rest_written (c ∷ s) t none ended =
      let parts = and_parts (not (test c)) (list_all (λ c. not (test c)) s) none in
      let fails : test c ≡ false = not-true _ parts.0 in
      rw fails (rest_written s t parts.1 ended)

-- ---- names

neither : (a b : Bool) → not (a || b) ≡ true → (a ≡ false) × (not b ≡ true)
neither true b is = cc
neither false b is = (refl, is)

small-lowered : (c : ℕ) → is_capital c ≡ false → to_ascii_lowercase c ≡ c
small-lowered c small = grind (arith, nat_tests)

unbroken-lowered : (ends : ℕ → Bool) (name : List ℕ) → is_unbroken ends name ≡ true → lowered name ≡ name
unbroken-lowered ends name is =
    lowered-same (λ c. not (is_capital c || ends c)) (λ c passes. small-lowered c (neither (is_capital c) (ends c) passes).0) name is

unbroken-runs : (ends : ℕ → Bool) (name : List ℕ) → is_unbroken ends name ≡ true → list_all (λ c. not (ends c)) name ≡ true
unbroken-runs ends name is =
    all-weaker (λ c. not (is_capital c || ends c)) (λ c. not (ends c)) (λ c passes. (neither (is_capital c) (ends c) passes).1) name is

-- ---- attributes

-- an attribute of a name and a value that is written in front of a text
abbrev read_before : List ℕ → List ℕ → List ℕ → Step
read_before name value more = attribute_step (record { pairs = (name, decoded value) ∷ []; rest = more })

module _ (value more : List ℕ) (unquoted : list_all (λ c. not (is_character 0x22 c)) value ≡ true) where
  value-written : (name : List ℕ)
      → attribute_behind name (0x3D ∷ 0x22 ∷ (value ++ (0x22 ∷ more))) ≡ record { pairs = (name, decoded value) ∷ []; rest = more }
  unfolding attribute_behind raw_value rest_from
  value-written name =
      λ i. with_raw_value name (record {
        value = run_written (is_character 0x22) value (0x22 ∷ more) unquoted refl i;
        rest = drop 1 (rest_written (is_character 0x22) value (0x22 ∷ more) unquoted refl i);
      })

  -- behind the name
  named-written : (c : ℕ) (name : List ℕ) → lowered (c ∷ name) ≡ c ∷ name
      → named_attribute (c ∷ name) (0x3D ∷ 0x22 ∷ (value ++ (0x22 ∷ more))) ≡ record { pairs = (c ∷ name, decoded value) ∷ []; rest = more }
  unfolding named_attribute rest_from
  named-written c name low =
      ap (λ (n : List ℕ). attribute_behind n (0x3D ∷ 0x22 ∷ (value ++ (0x22 ∷ more)))) low ∙ value-written (c ∷ name)

  -- from the name on
  attribute-written : (c : ℕ) (name : List ℕ) → is_unbroken ends_attribute_name (c ∷ name) ≡ true
      → attribute_at ((c ∷ name) ++ (0x3D ∷ 0x22 ∷ (value ++ (0x22 ∷ more)))) ≡ record { pairs = (c ∷ name, decoded value) ∷ []; rest = more }
  unfolding attribute_at
  attribute-written c name unbroken =
      let behind = 0x3D ∷ 0x22 ∷ (value ++ (0x22 ∷ more)) in
      let runs = unbroken-runs ends_attribute_name (c ∷ name) unbroken in
      (λ i. named_attribute (run_written ends_attribute_name (c ∷ name) behind runs refl i) (rest_written ends_attribute_name (c ∷ name) behind runs refl i))
      ∙ named-written c name (unbroken-lowered ends_attribute_name (c ∷ name) unbroken)

-- what ends no name of an attribute is no gap, and ends no tag
no_gap : (c : ℕ) → not (ends_attribute_name c) ≡ true → ends_gap c ≡ true
no_gap c is = grind (arith, nat_tests)

no_tag_end : (c : ℕ) → not (ends_attribute_name c) ≡ true → (c == 0x3E) ≡ false
no_tag_end c is = grind (arith, nat_tests)

-- behind a space
spaced : (c : ℕ) (text : List ℕ) → not (ends_attribute_name c) ≡ true → step_of (0x20 ∷ c ∷ text) ≡ attribute_step (attribute_at (c ∷ text))
unfolding step_of step_behind run_to rest_from
spaced c text begins = rw (no_gap c begins) (rw (no_tag_end c begins) refl)

step-written : (name value more : List ℕ) → is_writable_attribute (name, value) ≡ true
    → step_of (0x20 ∷ (name ++ (0x3D ∷ 0x22 ∷ (value ++ (0x22 ∷ more))))) ≡ read_before name value more
step-written [] value more is = absurd (true≢false (sym is))
step-written (c ∷ name) value more is =
    let parts = and_parts (nat_lt 0 (length (c ∷ name)) && is_unbroken ends_attribute_name (c ∷ name)) (list_all (λ d. not (is_character 0x22 d)) value) is in
    let unbroken = (and_parts (nat_lt 0 (length (c ∷ name))) (is_unbroken ends_attribute_name (c ∷ name)) parts.0).1 in
    let first = (and_parts (not (ends_attribute_name c)) (list_all (λ d. not (ends_attribute_name d)) name) (unbroken-runs ends_attribute_name (c ∷ name) unbroken)).0 in
    spaced c (name ++ (0x3D ∷ 0x22 ∷ (value ++ (0x22 ∷ more)))) first
    ∙ ap attribute_step (attribute-written value more parts.1 c name unbroken)

-- ---- the end of a tag

-- an attribute in front of a text
attribute-before : (name value more : List ℕ)
    → written_attribute (name, value) ++ more ≡ 0x20 ∷ (name ++ (0x3D ∷ 0x22 ∷ (value ++ (0x22 ∷ more))))
attribute-before name value more =
    ap (λ (l : List ℕ). 0x20 ∷ l) (append_assoc name (0x3D ∷ 0x22 ∷ (value ++ (0x22 ∷ []))) more)
    ∙ ap (λ (l : List ℕ). 0x20 ∷ (name ++ (0x3D ∷ 0x22 ∷ l))) (append_assoc value (0x22 ∷ []) more)

attribute-read : (name value more : List ℕ) → is_writable_attribute (name, value) ≡ true
    → tag_end_behind 0 (written_attribute (name, value) ++ more) ≡ option_map (with_attributes ((name, decoded value) ∷ [])) (tag_end_behind 0 more)
attribute-read name value more is =
    ap (tag_end_behind 0) (attribute-before name value more)
    ∙ first_step 0x20 (name ++ (0x3D ∷ 0x22 ∷ (value ++ (0x22 ∷ more))))
    ∙ ap (λ (step : Step). end_by_step step (λ rest. tag_end_behind 0 rest)) (step-written name value more is)

-- a text that ends a tag, as an empty one or not, in front of another
record EndsTag (mark : List ℕ) (is_empty : Bool) (rest : List ℕ) : Type 0 where
  ends_name : stops ends_tag_name (mark ++ rest) ≡ true
  reads : tag_end_behind 0 (mark ++ rest) ≡ Some (record { attrs = []; is_empty = is_empty; rest = rest })

ends-start : (rest : List ℕ) → EndsTag (codes ">") false rest
unfolding tag_end_behind step_of step_behind ends_with_slash run_to rest_from
ends-start rest = record { ends_name = refl; reads = refl }

ends-empty : (rest : List ℕ) → EndsTag (codes " />") true rest
unfolding tag_end_behind step_of step_behind ends_with_slash run_to rest_from
ends-empty rest = record { ends_name = refl; reads = refl }

module _ (mark : List ℕ) (is_empty : Bool) (rest : List ℕ) (ends : EndsTag mark is_empty rest) where
  attributes-read : (attrs : List Attribute) → list_all is_writable_attribute attrs ≡ true
      → tag_end_behind 0 (flat_map written_attribute attrs ++ (mark ++ rest))
      ≡ Some (record { attrs = map attribute_as_read attrs; is_empty = is_empty; rest = rest })
  attributes-read [] all = ends.reads
  attributes-read (pair ∷ attrs) all =
      let parts = and_parts (is_writable_attribute pair) (list_all is_writable_attribute attrs) all in
      ap (tag_end_behind 0) (append_assoc (written_attribute pair) (flat_map written_attribute attrs) (mark ++ rest))
      ∙ attribute-read pair.0 pair.1 (flat_map written_attribute attrs ++ (mark ++ rest)) parts.0
      ∙ ap (option_map (with_attributes (attribute_as_read pair ∷ []))) (attributes-read attrs parts.1)

  -- what follows a tag's name ends it
  name-ended : (attrs : List Attribute) → stops ends_tag_name (flat_map written_attribute attrs ++ (mark ++ rest)) ≡ true
  name-ended [] = ends.ends_name
  name-ended (pair ∷ attrs) = refl

-- attributes of distinct names are the first of their names
first-distinct : (attrs : List Attribute) → is_distinct attrs ≡ true → first_of_names attrs ≡ attrs
first-distinct [] distinct = refl
first-distinct (pair ∷ attrs) distinct =
    ap (λ (l : List Attribute). pair ∷ l)
    (ap (λ (l : List Attribute). without l pair.0) (first-distinct attrs (rest_is_distinct pair attrs distinct))
    ∙ without-absent attrs pair.0 (first_is_new pair attrs distinct))

read-distinct : (attrs : List Attribute) → is_distinct attrs ≡ true → first_of_names (map attribute_as_read attrs) ≡ map attribute_as_read attrs
read-distinct attrs distinct =
    first-distinct (map attribute_as_read attrs)
    (is_distinct-names (map attribute_as_read attrs) attrs (map-map (λ pair. pair.0) attribute_as_read attrs) ∙ distinct)

-- ---- tags

module _ (mark : List ℕ) (is_empty : Bool) (rest : List ℕ) (ends : EndsTag mark is_empty rest) (name : List ℕ) (attrs : List Attribute)
    (is : is_writable_tag name attrs ≡ true) where
  said_of_name : is_writable_name name ≡ true
  said_of_name = (and_parts (is_writable_name name) (list_all is_writable_attribute attrs) (and_parts (is_writable_name name && list_all is_writable_attribute attrs) (is_distinct attrs) is).0).0

  said_of_attributes : list_all is_writable_attribute attrs ≡ true
  said_of_attributes = (and_parts (is_writable_name name) (list_all is_writable_attribute attrs) (and_parts (is_writable_name name && list_all is_writable_attribute attrs) (is_distinct attrs) is).0).1

  said_of_names : is_distinct attrs ≡ true
  said_of_names = (and_parts (is_writable_name name && list_all is_writable_attribute attrs) (is_distinct attrs) is).1

  abbrev behind_name : List ℕ
  behind_name = flat_map written_attribute attrs ++ (mark ++ rest)

  end-read : tag_end behind_name ≡ Some (record { attrs = map attribute_as_read attrs; is_empty = is_empty; rest = rest })
  unfolding tag_end
  end-read =
      ap (option_map with_first_of_names) (attributes-read mark is_empty rest ends attrs said_of_attributes)
      ∙ ap (λ (pairs : List Attribute). Some (record { attrs = pairs; is_empty = is_empty; rest = rest })) (read-distinct attrs said_of_names)

  tag-read : tag_of (name ++ behind_name)
      ≡ tag_by_end name (Some (record { attrs = map attribute_as_read attrs; is_empty = is_empty; rest = rest }))
  unfolding tag_of
  tag-read =
      let unbroken = (and_parts (begins_with is_letter name) (is_unbroken ends_tag_name name) said_of_name).1 in
      let runs = unbroken-runs ends_tag_name name unbroken in
      let ended = name-ended mark is_empty rest ends attrs in
      (λ i. tag_by_end (lowered (run_written ends_tag_name name behind_name runs ended i)) (tag_end (rest_written ends_tag_name name behind_name runs ended i)))
      ∙ (λ i. tag_by_end (unbroken-lowered ends_tag_name name unbroken i) (end-read i))

-- what a `<` begins before a letter
letter-begins : (name t : List ℕ) → begins_with is_letter name ≡ true → begins_with is_letter (name ++ t) ≡ true
letter-begins [] t is = absurd (true≢false (sym is))
letter-begins (c ∷ name) t is = is

-- a letter is none of these marks
no_exclamation : (c : ℕ) → is_letter c ≡ true → (c == 0x21) ≡ false
no_exclamation c is = grind (arith, nat_tests)

no_question : (c : ℕ) → is_letter c ≡ true → (c == 0x3F) ≡ false
no_question c is = grind (arith, nat_tests)

no_slash_at : (c : ℕ) → is_letter c ≡ true → (c == 0x2F) ≡ false
no_slash_at c is = grind (arith, nat_tests)

no_mark_at : (c : ℕ) → is_letter c ≡ true → nat_eq 0x21 c ≡ false
no_mark_at c is = grind (arith, nat_tests)

markup-letter : (t : List ℕ) → begins_with is_letter t ≡ true → markup_of t ≡ tag_of t
markup-letter [] is = absurd (true≢false (sym is))
markup-letter (c ∷ t) is =
    markup-tag (c ∷ t) (rw (no_mark_at c is) refl) (rw (no_mark_at c is) refl) (no_exclamation c is) (no_question c is)
    ∙ tag-start (c ∷ t) (rw (no_slash_at c is) refl) is

-- ---- constructs

written-before : (mark name attributes rest : List ℕ) → (0x3C ∷ (name ++ (attributes ++ mark))) ++ rest ≡ 0x3C ∷ (name ++ (attributes ++ (mark ++ rest)))
written-before mark name attributes rest =
    ap (λ (l : List ℕ). 0x3C ∷ l) (append_assoc name (attributes ++ mark) rest ∙ ap (λ (l : List ℕ). name ++ l) (append_assoc attributes mark rest))

start-construct : (name : List ℕ) (attrs : List Attribute) (rest : List ℕ) → is_writable (start_token name attrs) ≡ true
    → construct_of (written (start_token name attrs) ++ rest) ≡ gives_one (as_read (start_token name attrs)) rest
start-construct name attrs rest is =
    let parts = and_parts (is_writable_tag name attrs) (not (is_hiding name)) is in
    let ends = ends-start rest in
    let behind = flat_map written_attribute attrs ++ (codes ">" ++ rest) in
    let letter = (and_parts (begins_with is_letter name) (is_unbroken ends_tag_name name) (said_of_name (codes ">") false rest ends name attrs parts.0)).0 in
    ap construct_of (written-before (codes ">") name (flat_map written_attribute attrs) rest)
    ∙ construct-markup (name ++ behind) ∙ markup-letter (name ++ behind) (letter-begins name behind letter)
    ∙ tag-read (codes ">") false rest ends name attrs parts.0
    ∙ sym (by-start name (record { attrs = map attribute_as_read attrs; is_empty = false; rest = rest }) refl (not-true _ parts.1))

empty-construct : (name : List ℕ) (attrs : List Attribute) (rest : List ℕ) → is_writable (empty_token name attrs) ≡ true
    → construct_of (written (empty_token name attrs) ++ rest) ≡ gives_one (as_read (empty_token name attrs)) rest
empty-construct name attrs rest is =
    let ends = ends-empty rest in
    let behind = flat_map written_attribute attrs ++ (codes " />" ++ rest) in
    let letter = (and_parts (begins_with is_letter name) (is_unbroken ends_tag_name name) (said_of_name (codes " />") true rest ends name attrs is)).0 in
    ap construct_of (written-before (codes " />") name (flat_map written_attribute attrs) rest)
    ∙ construct-markup (name ++ behind) ∙ markup-letter (name ++ behind) (letter-begins name behind letter)
    ∙ tag-read (codes " />") true rest ends name attrs is
    ∙ sym (by-empty name (record { attrs = map attribute_as_read attrs; is_empty = true; rest = rest }) refl)

-- an end tag runs to its `>`
closes : (c : ℕ) (t : List ℕ) → begins_with_mark (codes ">") (c ∷ t) ≡ (c == 0x3E)
closes c t = and_true (nat_eq 0x3E c) ∙ turned c
  where
    turned : (c : ℕ) → nat_eq 0x3E c ≡ (c == 0x3E)
    turned c = grind (arith, nat_tests)

run_to-same : (test other : List ℕ → Bool) → ((t : List ℕ) → test t ≡ other t) → (t : List ℕ) → run_to test t ≡ run_to other t
unfolding run_to
run_to-same test other same [] = refl
run_to-same test other same (c ∷ t) = λ i. cond (same (c ∷ t) i) [] (c ∷ run_to-same test other same t i)

rest_from-same : (test other : List ℕ → Bool) → ((t : List ℕ) → test t ≡ other t) → (t : List ℕ) → rest_from test t ≡ rest_from other t
unfolding rest_from
rest_from-same test other same [] = refl
rest_from-same test other same (c ∷ t) = λ i. cond (same (c ∷ t) i) (c ∷ t) (rest_from-same test other same t i)

closed-there : (t : List ℕ) → begins_with_mark (codes ">") t ≡ begins_with (is_character 0x3E) t
closed-there [] = refl
closed-there (c ∷ t) = closes c t

name-read : (name : List ℕ) → is_unbroken ends_tag_name name ≡ true → end_tag_of name ≡ end_token name
name-read name unbroken =
    let runs = unbroken-runs ends_tag_name name unbroken in
    let whole : run_to (begins_with ends_tag_name) name ≡ name =
    ap (run_to (begins_with ends_tag_name)) (sym (append-nil name)) ∙ run_written ends_tag_name name [] runs refl in
    ap (λ (l : List ℕ). end_token (lowered l)) whole ∙ ap end_token (unbroken-lowered ends_tag_name name unbroken)

end-construct : (name rest : List ℕ) → is_writable (end_token name) ≡ true
    → construct_of (written (end_token name) ++ rest) ≡ gives_one (as_read (end_token name)) rest
end-construct name rest is =
    let parts = and_parts (begins_with is_letter name) (is_unbroken ends_tag_name name) is in
    let runs = unbroken-runs ends_tag_name name parts.1 in
    let inside = all-weaker (λ c. not (ends_tag_name c)) (λ c. not (is_character 0x3E c)) (λ c passes. (neither (is_space c || c == 0x2F) (c == 0x3E) passes).1) name runs in
    let behind = name ++ (0x3E ∷ rest) in
    let run : name ≡ run_to (begins_with_mark (codes ">")) behind =
    sym (run_to-same (begins_with_mark (codes ">")) (begins_with (is_character 0x3E)) closed-there behind ∙ run_written (is_character 0x3E) name (0x3E ∷ rest) inside refl) in
    let from : codes ">" ++ rest ≡ rest_from (begins_with_mark (codes ">")) behind =
    sym (rest_from-same (begins_with_mark (codes ">")) (begins_with (is_character 0x3E)) closed-there behind ∙ rest_written (is_character 0x3E) name (0x3E ∷ rest) inside refl) in
    ap (λ (l : List ℕ). construct_of (0x3C ∷ 0x2F ∷ l)) (append_assoc name (codes ">") rest)
    ∙ construct-markup (0x2F ∷ behind)
    ∙ markup-tag (0x2F ∷ behind) refl refl refl refl
    ∙ tag-end (0x2F ∷ behind) behind refl (letter-begins name (0x3E ∷ rest) parts.0)
    ∙ sym (through-found (codes ">") end_tag_of behind name rest (lit< tt) run from)
    ∙ ap (λ (token : PlainToken). gives_one token rest) (name-read name parts.1)

-- a text runs to the next `<`, or to the end
text-begins : (text rest : List ℕ) → list_all (λ c. not (is_character 0x3C c)) text ≡ true → nat_lt 0 (length (decoded text)) ≡ true
    → begins_with (is_character 0x3C) (text ++ rest) ≡ false
unfolding decoded decoded_behind
text-begins [] rest none some = absurd (true≢false (sym some))
text-begins (c ∷ text) rest none some = not-true _ (and_parts (not (is_character 0x3C c)) (list_all (λ d. not (is_character 0x3C d)) text) none).0

text-construct : (text rest : List ℕ) → is_writable (text_token text) ≡ true → stops (is_character 0x3C) rest ≡ true
    → construct_of (text ++ rest) ≡ gives_one (as_read (text_token text)) rest
text-construct text rest is ended =
    let parts = and_parts (list_all (λ c. not (is_character 0x3C c)) text) (nat_lt 0 (length (decoded text))) is in
    construct-plain (text ++ rest) (text-begins text rest parts.0 parts.1)
    ∙ (λ i. gives_one (text_token (decoded (run_written (is_character 0x3C) text rest parts.0 ended i))) (rest_written (is_character 0x3C) text rest parts.0 ended i))

-- ---- tokens

-- a construct that is read first
given-one : (t rest : List ℕ) (token : PlainToken) → (0 < length t) → construct_of t ≡ gives_one token rest → given_behind 0 t ≡ token ∷ given_behind 0 rest
given-one [] rest token some is = absurd (omega arith)
given-one (c ∷ t) rest token some is =
    given-first c t ∙ ap (λ (construct : Construct). construct.gives ++ given_behind 0 construct.rest) is

some-text : (text rest : List ℕ) → nat_lt 0 (length (decoded text)) ≡ true → 0 < length (text ++ rest)
unfolding decoded decoded_behind
some-text [] rest some = absurd (true≢false (sym some))
some-text (c ∷ text) rest some = omega arith

-- what tokens are written as begins with a `<`, where they don't begin with a text
written-opens : (tokens : List PlainToken) → list_all is_writable tokens ≡ true → begins_with_text tokens ≡ false
    → stops (is_character 0x3C) (flat_map written tokens) ≡ true
written-opens [] all other = refl
written-opens (text_token text ∷ tokens) all other = absurd (true≢false other)
written-opens (start_token name attrs ∷ tokens) all other = refl
written-opens (end_token name ∷ tokens) all other = refl
written-opens (empty_token name attrs ∷ tokens) all other = refl
written-opens (hidden_token name body ∷ tokens) all other = absurd (true≢false (sym all))
written-opens (comment_token text ∷ tokens) all other = absurd (true≢false (sym all))

-- one token in front of others
first-read : (token : PlainToken) (rest : List ℕ) → is_writable token ≡ true → (is_text token ≡ true → stops (is_character 0x3C) rest ≡ true)
    → given_behind 0 (written token ++ rest) ≡ as_read token ∷ given_behind 0 rest
first-read (text_token text) rest is ended =
    let some = (and_parts (list_all (λ c. not (is_character 0x3C c)) text) (nat_lt 0 (length (decoded text))) is).1 in
    given-one (text ++ rest) rest (as_read (text_token text)) (some-text text rest some) (text-construct text rest is (ended refl))
first-read (start_token name attrs) rest is ended =
    given-one (written (start_token name attrs) ++ rest) rest (as_read (start_token name attrs)) (omega arith) (start-construct name attrs rest is)
first-read (end_token name) rest is ended =
    given-one (written (end_token name) ++ rest) rest (end_token name) (omega arith) (end-construct name rest is)
first-read (empty_token name attrs) rest is ended =
    given-one (written (empty_token name attrs) ++ rest) rest (as_read (empty_token name attrs)) (omega arith) (empty-construct name attrs rest is)
first-read (hidden_token name body) rest is ended = absurd (true≢false (sym is))
first-read (comment_token text) rest is ended = absurd (true≢false (sym is))

beside-text : (a b : Bool) → not (a && b) ≡ true → a ≡ true → b ≡ false
beside-text true b apart is = not-true _ apart
beside-text false b apart is = cc

given-written : (tokens : List PlainToken) → list_all is_writable tokens ≡ true → has_no_neighbours tokens ≡ true
    → given_behind 0 (flat_map written tokens) ≡ map as_read tokens
unfolding given_behind
given-written [] all none = refl
given-written (token ∷ tokens) all none =
    let parts = and_parts (is_writable token) (list_all is_writable tokens) all in
    let apart = and_parts (not (is_text token && begins_with_text tokens)) (has_no_neighbours tokens) none in
    first-read token (flat_map written tokens) parts.0
    (λ text. written-opens tokens parts.1 (beside-text (is_text token) (begins_with_text tokens) apart.0 text))
    ∙ ap (λ (l : List PlainToken). as_read token ∷ l) (given-written tokens parts.1 apart.1)

-- none of these tokens is an empty text
some-read : (token : PlainToken) → is_writable token ≡ true → is_some_token (as_read token) ≡ true
some-read (text_token text) is = (and_parts (list_all (λ c. not (is_character 0x3C c)) text) (nat_lt 0 (length (decoded text))) is).1
some-read (start_token name attrs) is = refl
some-read (end_token name) is = refl
some-read (empty_token name attrs) is = refl
some-read (hidden_token name body) is = refl
some-read (comment_token text) is = refl

all-read : (tokens : List PlainToken) → list_all is_writable tokens ≡ true → filter is_some_token (map as_read tokens) ≡ map as_read tokens
all-read [] all = refl
all-read (token ∷ tokens) all =
    let parts = and_parts (is_writable token) (list_all is_writable tokens) all in
    rw (some-read token parts.0) (ap (λ (l : List PlainToken). as_read token ∷ l) (all-read tokens parts.1))

-- and texts are neighbours only where they were
text-read : (token : PlainToken) → is_text (as_read token) ≡ is_text token
text-read (text_token text) = refl
text-read (start_token name attrs) = refl
text-read (end_token name) = refl
text-read (empty_token name attrs) = refl
text-read (hidden_token name body) = refl
text-read (comment_token text) = refl

begins-read : (tokens : List PlainToken) → begins_with_text (map as_read tokens) ≡ begins_with_text tokens
begins-read [] = refl
begins-read (token ∷ tokens) = text-read token

neighbours-read : (tokens : List PlainToken) → has_no_neighbours (map as_read tokens) ≡ has_no_neighbours tokens
neighbours-read [] = refl
neighbours-read (token ∷ tokens) = λ i. not (text-read token i && begins-read tokens i) && neighbours-read tokens i

-- what tokens are written as is read as these tokens
pub tokens-written : (tokens : List PlainToken) → list_all is_writable tokens ≡ true → has_no_neighbours tokens ≡ true
    → tokens_of (flat_map written tokens) ≡ map as_read tokens
unfolding tokens_of
tokens-written tokens all none =
    ap (λ (l : List PlainToken). joined (filter is_some_token l)) (given-written tokens all none) ∙ ap joined (all-read tokens all)
    ∙ joined-same (map as_read tokens) (neighbours-read tokens ∙ none)
