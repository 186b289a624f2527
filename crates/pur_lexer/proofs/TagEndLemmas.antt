-- How a tag is read step by step.
use Rattle.std.proofs.Common.{◌≡◌, ℕ, zero, suc, ◌-◌, ◌<◌, ◌≤◌, Bool, true, false, cond, List, [], ◌∷◌, ◌++◌, length, take, drop, Option, None, Some, option_map, refl, sym, ap, ◌∙◌, arith, ⊎_elim, append_assoc, append-nil, take-append-drop, encode_utf8_all, IsUtf8}
use Rattle.std.specs.Str.{chars}
use Rattle.std.specs.List.{list_all}
use Rattle.std.proofs.lemmas.Bool.{cases_lt, and_from, eqb-true}
use Rattle.std.proofs.lemmas.Bool.Decides.{nat_tests}
use Rattle.std.proofs.lemmas.List.Prefix.{end_rest}
use Rattle.pur_laws.proofs.Texts.{is_ascii, same_chars}
use Rattle.std.proofs.lemmas.List.{length-drop}
use Rattle.std.proofs.lemmas.Str.{chars-nil, encodes-chars}
use Rattle.pur_attrlist.specs.Attributes.{Attribute, with_new, first_of_names}
use Rattle.pur_attrlist.proofs.AttributeLaws.{first_of_names-push}
use Rattle.pur_lexer.specs.Places.{begins_with, is_character, run_to, rest_from}
use Rattle.pur_lexer.specs.Tags.{ends_gap, ends_space, ends_attribute_name, ends_bare_value, lowered, raw_value, quoted_value, bare_value, with_raw_value, attribute_behind, named_attribute, attribute_at, Step, end_step, attribute_step, ends_with_slash, step_behind, step_of, TagEnd, with_attributes, end_by_step, tag_end_behind, with_first_of_names, tag_end}
use Rattle.pur_lexer.specs.Private.Readings.{with_all_new, tag_end_after}

-- the text is what stands behind some of the characters of another
pub record IsRestOf (rest text : List ℕ) : Type 0 where
  pub place : ℕ
  pub is : rest ≡ drop place text

drop_twice : (j k : ℕ) (t : List ℕ) → (n : ℕ) × (drop j (drop k t) ≡ drop n t)
drop_twice j zero t = (j, refl)
drop_twice j (suc k) [] = (j, refl)
drop_twice j (suc k) (c ∷ t) = let later = drop_twice j k t in (suc later.0, later.1)

pub rest_of_rest : (a b t : List ℕ) → IsRestOf a b → IsRestOf b t → IsRestOf a t
rest_of_rest a b t x y =
    let twice = drop_twice x.place y.place t in
    record { place = twice.0; is = x.is ∙ ap (drop x.place) y.is ∙ twice.1 }

pub behind : (n : ℕ) (t : List ℕ) → IsRestOf (drop n t) t
behind n t = record { place = n; is = refl }

pub whole : (t : List ℕ) → IsRestOf t t
whole t = record { place = 0; is = refl }

pub further : (c : ℕ) (rest t : List ℕ) → IsRestOf rest t → IsRestOf rest (c ∷ t)
further c rest t h = record { place = suc h.place; is = h.is }

pub from_place : (test : List ℕ → Bool) (t : List ℕ) → IsRestOf (rest_from test t) t
unfolding rest_from
from_place test [] = record { place = 0; is = refl }
from_place test (c ∷ t) = by (test (c ∷ t)) (from_place test t)
  where
    by : (b : Bool) → IsRestOf (rest_from test t) t → IsRestOf (cond b (c ∷ t) (rest_from test t)) (c ∷ t)
    by true h = whole (c ∷ t)
    by false h = further c (rest_from test t) t h

-- a rest is as far behind as it is shorter
pub at_rest : (rest t : List ℕ) → IsRestOf rest t → drop (length t - length rest) t ≡ rest
at_rest rest t h = ap (λ (r : List ℕ). drop (length t - length r) t) h.is ∙ there h.place t ∙ sym h.is
  where
    there : (k : ℕ) (t : List ℕ) → drop (length t - length (drop k t)) t ≡ drop k t
    there zero t = let none : length t - length t ≡ 0 = omega arith in ap (λ (n : ℕ). drop n t) none
    there (suc k) [] = refl
    there (suc k) (c ∷ t) = ⊎_elim
        (λ (low : k < length t).
        let n : suc (length t) - length (drop k t) ≡ suc k = omega (arith, length-drop k t) in
        ap (λ (n : ℕ). drop n (c ∷ t)) n)
        (λ (high : length t ≤ k).
        let n : suc (length t) - length (drop k t) ≡ suc (length t - length (drop k t)) = omega (arith, length-drop k t) in
        ap (λ (n : ℕ). drop n (c ∷ t)) n ∙ there k t)
        (cases_lt k (length t))

-- each part of a tag is read from a rest on
quoted-rest : (quote : ℕ) (t : List ℕ) → IsRestOf (quoted_value quote (drop 1 t)).rest t
quoted-rest quote t =
    let end = rest_from (begins_with (is_character quote)) (drop 1 t) in
    rest_of_rest (drop 1 end) end t (behind 1 end) (rest_of_rest end (drop 1 t) t (from_place (begins_with (is_character quote)) (drop 1 t)) (behind 1 t))

raw_value-rest : (t : List ℕ) → IsRestOf (raw_value t).rest t
unfolding raw_value
raw_value-rest t = by (begins_with (is_character 0x22) t) (begins_with (is_character 0x27) t)
  where
    by : (a b : Bool) → IsRestOf (cond a (quoted_value 0x22 (drop 1 t)) (cond b (quoted_value 0x27 (drop 1 t)) (bare_value t))).rest t
    by true b = quoted-rest 0x22 t
    by false true = quoted-rest 0x27 t
    by false false = from_place (begins_with ends_bare_value) t

attribute_behind-rest : (name t : List ℕ) → IsRestOf (attribute_behind name t).rest t
unfolding attribute_behind
attribute_behind-rest name t = by (begins_with (is_character 0x3D) t)
  where
    by : (b : Bool) → IsRestOf (cond b (with_raw_value name (raw_value (rest_from (begins_with ends_space) (drop 1 t)))) (record { pairs = (name, name) ∷ []; rest = t })).rest t
    by true = rest_of_rest _ (rest_from (begins_with ends_space) (drop 1 t)) t (raw_value-rest (rest_from (begins_with ends_space) (drop 1 t)))
        (rest_of_rest _ (drop 1 t) t (from_place (begins_with ends_space) (drop 1 t)) (behind 1 t))
    by false = whole t

named_attribute-rest : (name t : List ℕ) → IsRestOf (named_attribute name t).rest t
unfolding named_attribute
named_attribute-rest [] t = behind 1 t
named_attribute-rest (c ∷ name) t =
    rest_of_rest _ (rest_from (begins_with ends_space) t) t (attribute_behind-rest (lowered (c ∷ name)) (rest_from (begins_with ends_space) t))
    (from_place (begins_with ends_space) t)

attribute_at-rest : (t : List ℕ) → IsRestOf (attribute_at t).rest t
unfolding attribute_at
attribute_at-rest t =
    rest_of_rest _ (rest_from (begins_with ends_attribute_name) t) t
    (named_attribute-rest (run_to (begins_with ends_attribute_name) t) (rest_from (begins_with ends_attribute_name) t))
    (from_place (begins_with ends_attribute_name) t)

-- and takes one character at least
attribute_at-further : (c : ℕ) (t : List ℕ) → IsRestOf (attribute_at (c ∷ t)).rest t
unfolding attribute_at run_to rest_from named_attribute
attribute_at-further c t = by (ends_attribute_name c)
  where
    by : (b : Bool) → IsRestOf (named_attribute (cond b [] (c ∷ run_to (begins_with ends_attribute_name) t)) (cond b (c ∷ t) (rest_from (begins_with ends_attribute_name) t))).rest t
    by true = whole t
    by false = rest_of_rest _ (rest_from (begins_with ends_attribute_name) t) t
        (named_attribute-rest (c ∷ run_to (begins_with ends_attribute_name) t) (rest_from (begins_with ends_attribute_name) t))
        (from_place (begins_with ends_attribute_name) t)

-- where a tag goes on
abbrev pub GoesOn : Step → List ℕ → Type 0
GoesOn (end_step is_empty rest) t = IsRestOf rest t
GoesOn (attribute_step read) t = IsRestOf read.rest t

goes_further : (s : Step) (a t : List ℕ) → GoesOn s a → IsRestOf a t → GoesOn s t
goes_further (end_step is_empty rest) a t h e = rest_of_rest rest a t h e
goes_further (attribute_step read) a t h e = rest_of_rest read.rest a t h e

step_behind-goes : (skipped t : List ℕ) → GoesOn (step_behind skipped t) t
unfolding step_behind
step_behind-goes skipped t = by (begins_with (is_character 0x3E) t)
  where
    by : (b : Bool) → GoesOn (cond b (end_step (ends_with_slash skipped) (drop 1 t)) (attribute_step (attribute_at t))) t
    by true = behind 1 t
    by false = attribute_at-rest t

step_behind-further : (skipped : List ℕ) (c : ℕ) (t : List ℕ) → GoesOn (step_behind skipped (c ∷ t)) t
unfolding step_behind
step_behind-further skipped c t = by (begins_with (is_character 0x3E) (c ∷ t))
  where
    by : (b : Bool) → GoesOn (cond b (end_step (ends_with_slash skipped) (drop 1 (c ∷ t))) (attribute_step (attribute_at (c ∷ t)))) t
    by true = whole t
    by false = attribute_at-further c t

pub step_of-goes : (c : ℕ) (t : List ℕ) → GoesOn (step_of (c ∷ t)) t
unfolding step_of run_to rest_from
step_of-goes c t = by (ends_gap c)
  where
    by : (b : Bool) → GoesOn (step_behind (cond b [] (c ∷ run_to (begins_with ends_gap) t)) (cond b (c ∷ t) (rest_from (begins_with ends_gap) t))) t
    by true = step_behind-further [] c t
    by false = goes_further (step_behind (c ∷ run_to (begins_with ends_gap) t) (rest_from (begins_with ends_gap) t)) (rest_from (begins_with ends_gap) t) t
        (step_behind-goes (c ∷ run_to (begins_with ends_gap) t) (rest_from (begins_with ends_gap) t)) (from_place (begins_with ends_gap) t)

-- a tag is read step by step
passed : (k : ℕ) (t : List ℕ) → tag_end_behind k t ≡ tag_end_behind 0 (drop k t)
unfolding tag_end_behind
passed zero t = refl
passed (suc k) [] = refl
passed (suc k) (c ∷ t) = passed k t

by_step : (s : Step) (t : List ℕ) → GoesOn s t → end_by_step s (λ rest. tag_end_behind (length t - length rest) t) ≡ end_by_step s (λ rest. tag_end_behind 0 rest)
by_step (end_step is_empty rest) t h = refl
by_step (attribute_step read) t h =
    ap (option_map (with_attributes read.pairs)) (passed (length t - length read.rest) t ∙ ap (tag_end_behind 0) (at_rest read.rest t h))

-- the first step leads to the text on which it goes on
pub first_step : (c : ℕ) (t : List ℕ) → tag_end_behind 0 (c ∷ t) ≡ end_by_step (step_of (c ∷ t)) (λ rest. tag_end_behind 0 rest)
unfolding tag_end_behind
first_step c t = by_step (step_of (c ∷ t)) t (step_of-goes c t)

next_step : (cs bytes : List ℕ) → encode_utf8_all cs ≡ bytes → (length bytes ≡ 0 → ⊥) → tag_end_behind 0 cs ≡ end_by_step (step_of cs) (λ rest. tag_end_behind 0 rest)
next_step [] bytes e some = absurd (some (ap length (sym e)))
next_step (c ∷ t) bytes e some = first_step c t

-- attributes that are put behind others in two parts
all_new-append : (attrs pairs more : List Attribute) → with_all_new attrs (pairs ++ more) ≡ with_all_new (with_all_new attrs pairs) more
unfolding with_all_new
all_new-append attrs [] more = refl
all_new-append attrs (pair ∷ pairs) more = all_new-append (with_new attrs pair.0 pair.1) pairs more

after_all : (attrs pairs : List Attribute) (found : Option TagEnd) → option_map (tag_end_after attrs) (option_map (with_attributes pairs) found) ≡ option_map (tag_end_after (with_all_new attrs pairs)) found
after_all attrs pairs None = refl
after_all attrs pairs (Some tag) =
    ap (λ (all : List Attribute). Some (record { attrs = all; is_empty = tag.is_empty; rest = tag.rest })) (all_new-append attrs pairs tag.attrs)

-- at the start there are no attributes
first_new : (done pairs : List Attribute) → with_all_new (first_of_names done) pairs ≡ first_of_names (done ++ pairs)
unfolding with_all_new
first_new done [] = ap first_of_names (sym (append-nil done))
first_new done (pair ∷ pairs) =
    ap (λ (l : List Attribute). with_all_new l pairs) (sym (first_of_names-push done pair)) ∙ first_new (done ++ pair ∷ []) pairs
    ∙ ap first_of_names (append_assoc done (pair ∷ []) pairs)

pub none_before : (attrs : List Attribute) (t : List ℕ) → attrs ≡ [] → option_map (tag_end_after attrs) (tag_end_behind 0 t) ≡ tag_end t
unfolding tag_end
none_before attrs t e = ap (λ (l : List Attribute). option_map (tag_end_after l) (tag_end_behind 0 t)) e ∙ by (tag_end_behind 0 t)
  where
    by : (found : Option TagEnd) → option_map (tag_end_after []) found ≡ option_map with_first_of_names found
    by None = refl
    by (Some tag) = ap (λ (all : List Attribute). Some (record { attrs = all; is_empty = tag.is_empty; rest = tag.rest })) (first_new [] tag.attrs)

-- at the end of the text there is no tag
pub text_ended : (attrs : List Attribute) (bytes : List ℕ) (found : Option TagEnd) → length bytes ≡ 0 → option_map (tag_end_after attrs) (tag_end_behind 0 (chars bytes)) ≡ found → None ≡ found
unfolding tag_end_behind
text_ended attrs [] found e h = ap (λ (t : List ℕ). option_map (tag_end_after attrs) (tag_end_behind 0 t)) (sym chars-nil) ∙ h
text_ended attrs (b ∷ bytes) found e h = absurd (omega arith)

module _ (attrs : List Attribute) (bytes skipped tail : List ℕ) (found : Option TagEnd) (is : IsUtf8 bytes) (some : length bytes ≡ 0 → ⊥)
    (run : skipped ≡ run_to (begins_with ends_gap) (chars bytes)) (rest : tail ≡ rest_from (begins_with ends_gap) (chars bytes))
    (h : option_map (tag_end_after attrs) (tag_end_behind 0 (chars bytes)) ≡ found) where
  here : (s : Step) → step_behind skipped tail ≡ s → option_map (tag_end_after attrs) (end_by_step s (λ rest. tag_end_behind 0 rest)) ≡ found
  unfolding step_of
  here s e =
      let step : step_of (chars bytes) ≡ s = (λ i. step_behind (sym run i) (sym rest i)) ∙ e in
      ap (λ (s : Step). option_map (tag_end_after attrs) (end_by_step s (λ rest. tag_end_behind 0 rest))) (sym step)
      ∙ ap (option_map (tag_end_after attrs)) (sym (next_step (chars bytes) bytes (encodes-chars bytes is) some)) ∙ h

  -- one more attribute
  pub attribute_read : (new : List Attribute) (next : List ℕ) → begins_with (is_character 0x3E) tail ≡ false → new ≡ with_all_new attrs (attribute_at tail).pairs
      → next ≡ (attribute_at tail).rest → option_map (tag_end_after new) (tag_end_behind 0 next) ≡ found
  unfolding step_behind
  attribute_read new next none pushed goes =
      (λ i. option_map (tag_end_after (pushed i)) (tag_end_behind 0 (goes i)))
      ∙ sym (after_all attrs (attribute_at tail).pairs (tag_end_behind 0 (attribute_at tail).rest))
      ∙ here (attribute_step (attribute_at tail)) (rw none refl)

  -- the end of the tag
  pub tag_ended : (is_empty : Bool) (behind : List ℕ) → tail ≡ 0x3E ∷ behind → is_empty ≡ ends_with_slash skipped → Some (record { attrs = attrs; is_empty = is_empty; rest = behind }) ≡ found
  unfolding step_behind with_all_new
  tag_ended is_empty behind e slash =
      ap (λ (b : Bool). Some (record { attrs = attrs; is_empty = b; rest = behind })) slash
      ∙ here (end_step (ends_with_slash skipped) behind) (ap (step_behind skipped) e)

-- what is skipped between attributes is ASCII
gap_is_ascii : (c : ℕ) → ends_gap c ≡ false → is_ascii c ≡ true
gap_is_ascii c e = grind (arith, nat_tests)

skipped_ascii : (t : List ℕ) → list_all is_ascii (run_to (begins_with ends_gap) t) ≡ true
unfolding run_to
skipped_ascii [] = refl
skipped_ascii (c ∷ t) = by (ends_gap c) refl (skipped_ascii t)
  where
    by : (b : Bool) → ends_gap c ≡ b → list_all is_ascii (run_to (begins_with ends_gap) t) ≡ true → list_all is_ascii (cond b [] (c ∷ run_to (begins_with ends_gap) t)) ≡ true
    by true e later = refl
    by false e later = and_from _ _ (gap_is_ascii c e) later

only_slash : (t : List ℕ) → length t ≤ 1 → begins_with (is_character 0x2F) t ≡ true → t ≡ 0x2F ∷ []
only_slash [] l e = cc
only_slash (c ∷ []) l e = ap (λ (x : ℕ). x ∷ []) (eqb-true c 0x2F e)
only_slash (c ∷ d ∷ t) l e = absurd (omega arith)

by_slash : (bytes : List ℕ) (r b : Bool) → ends_with_slash bytes ≡ b → (r ≡ true → bytes ≡ take (length bytes - 1) bytes ++ (0x2F ∷ [])) × ((front : List ℕ) → bytes ≡ front ++ (0x2F ∷ []) → r ≡ true) → r ≡ b
unfolding ends_with_slash
by_slash bytes true true e h = refl
by_slash bytes false false e h = refl
by_slash bytes true false e h =
    let last : drop (length bytes - 1) bytes ≡ 0x2F ∷ [] = end_rest bytes (0x2F ∷ []) (take (length bytes - 1) bytes) (h.0 refl) in
    sym (ap (begins_with (is_character 0x2F)) last) ∙ e
by_slash bytes false true e h =
    let last = only_slash (drop (length bytes - 1) bytes) (omega (arith, length-drop (length bytes - 1) bytes)) e in
    h.1 (take (length bytes - 1) bytes) (sym (take-append-drop (length bytes - 1) bytes) ∙ ap (λ (l : List ℕ). take (length bytes - 1) bytes ++ l) last)

pub slash_is : (bytes t : List ℕ) (r : Bool) → IsUtf8 bytes → chars bytes ≡ run_to (begins_with ends_gap) t
    → (r ≡ true → bytes ≡ take (length bytes - 1) bytes ++ (0x2F ∷ [])) × ((front : List ℕ) → bytes ≡ front ++ (0x2F ∷ []) → r ≡ true) → r ≡ ends_with_slash (chars bytes)
slash_is bytes t r is run h =
    let plain : chars bytes ≡ bytes = same_chars bytes is (ap (list_all is_ascii) run ∙ skipped_ascii t) in
    by_slash bytes r _ refl h ∙ ap ends_with_slash (sym plain)
