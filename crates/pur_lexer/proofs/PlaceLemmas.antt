-- A text that is cut at a place, in bytes and in characters.
use Rattle.std.proofs.Common.{◌≡◌, ℕ, zero, suc, ◌+◌, ◌-◌, add-one, take_all, ◌<◌, ◌≤◌, Bool, true, false, List, [], ◌∷◌, ◌++◌, length, take, drop, get_or, cond, nat_eq, refl, sym, ap, ◌∙◌, arith, ⊎_elim, encode_utf8, encode_utf8_all, IsUtf8, Option, None, Some, MatchOption, codes, lit<}
use Rattle.std.specs.Prelude.{◌&&◌, ◌==◌}
use lib.Utf8.{scalars, scalar}
use Rattle.std.specs.Char.{to_ascii_lowercase}
use Rattle.std.specs.List.{list_all}
use Rattle.std.specs.Str.{chars, IsCharBoundary}
use Rattle.std.proofs.lemmas.Bool.{and_from, and_parts, cases_lt, false_from_ne_true}
use Rattle.std.proofs.lemmas.Bool.Decides.{nat_tests}
use Rattle.std.proofs.lemmas.List.{append_cancel_left}
use Rattle.std.proofs.lemmas.Str.{chars-encodes, encode_ascii, encodes-append, encodes-IsAscii, chars-nil, chars_past_char, IsCharBoundary-from_take}
use Rattle.pur_laws.proofs.Sequences.{are_high, high_bytes, some_bytes}
use Rattle.pur_laws.proofs.Truth.{and_false}
use Rattle.pur_lexer.specs.Places.{begins_with, begins_with_mark, is_character, run_to, rest_from}
use Rattle.std.proofs.lemmas.Bool.Decides.{Decides-eqb}
use Rattle.std.proofs.lemmas.List.Prefix.{at_from_reads, at_reads}
use Rattle.std.proofs.lemmas.List.{length-append, length-drop}
use Rattle.std.proofs.lemmas.Slice.Eq.{starts_is}
use Rattle.memchr.specs.Find.{OccursAt}
use Rattle.pur_laws.proofs.Texts.{ascii_at, is_ascii}
use Rattle.pur_lexer.specs.declared.places.Stop.{Stop}
use Rattle.pur_lexer.specs.declared.places.Stop.TheVariants.{TagName, AttributeName, Gap, Space, BareValue}
use Rattle.pur_lexer.specs.Tags.{ends_tag_name, ends_attribute_name, ends_gap, ends_space, ends_bare_value}
use Rattle.pur_lexer.specs.Constructs.{begins_with_name, is_end_mark}
use Rattle.pur_lexer.specs.Private.Cutting.{stops_at, IsFirstPlace, IsMark}

-- the first place where the test passes cuts the list
pub run_to-place : (test : List ℕ → Bool) (bytes : List ℕ) (n : ℕ) → IsFirstPlace test bytes n → take n bytes ≡ run_to test bytes
unfolding run_to
run_to-place test [] zero h = refl
run_to-place test [] (suc n) h = refl
run_to-place test (c ∷ t) zero h = let found : test (c ∷ t) ≡ true = h.found (omega arith) in rw found refl
run_to-place test (c ∷ t) (suc n) h =
    let not_here : test (c ∷ t) ≡ false = h.before 0 (omega arith) in
    let later : IsFirstPlace test t n = record {
      within = (let w = h.within in omega arith);
      before = λ k l. h.before (suc k) (omega arith);
      found = λ l. h.found (omega arith);
    } in
    rw not_here (ap (λ (l : List ℕ). c ∷ l) (run_to-place test t n later))

pub rest_from-place : (test : List ℕ → Bool) (bytes : List ℕ) (n : ℕ) → IsFirstPlace test bytes n → drop n bytes ≡ rest_from test bytes
unfolding rest_from
rest_from-place test [] zero h = refl
rest_from-place test [] (suc n) h = refl
rest_from-place test (c ∷ t) zero h = let found : test (c ∷ t) ≡ true = h.found (omega arith) in rw found refl
rest_from-place test (c ∷ t) (suc n) h =
    let not_here : test (c ∷ t) ≡ false = h.before 0 (omega arith) in
    let later : IsFirstPlace test t n = record {
      within = (let w = h.within in omega arith);
      before = λ k l. h.before (suc k) (omega arith);
      found = λ l. h.found (omega arith);
    } in
    rw not_here (rest_from-place test t n later)

-- what stands before and from a place is the whole
pub run_and_rest : (test : List ℕ → Bool) (t : List ℕ) → run_to test t ++ rest_from test t ≡ t
unfolding run_to rest_from
run_and_rest test [] = refl
run_and_rest test (c ∷ t) = by (test (c ∷ t)) (run_and_rest test t)
  where
    by : (b : Bool) → run_to test t ++ rest_from test t ≡ t → cond b [] (c ∷ run_to test t) ++ cond b (c ∷ t) (rest_from test t) ≡ c ∷ t
    by true e = refl
    by false e = ap (λ (l : List ℕ). c ∷ l) e

-- a test that gives the same for bytes and characters, and one answer for all past ASCII
pub record IsPlainTest (test : List ℕ → Bool) : Type 0 where
  pub past_ascii : Bool
  pub past : (b : ℕ) (t : List ℕ) → 128 ≤ b → test (b ∷ t) ≡ past_ascii
  pub same : (cs : List ℕ) → test (encode_utf8_all cs) ≡ test cs

module _ (test : List ℕ → Bool) (plain : IsPlainTest test) where
  past_high : (bs t : List ℕ) → are_high bs → plain.past_ascii ≡ false → run_to test (bs ++ t) ≡ bs ++ run_to test t
  unfolding run_to
  past_high [] t high e = refl
  past_high (b ∷ bs) t high e =
      let fails : test (b ∷ (bs ++ t)) ≡ false = plain.past b (bs ++ t) (high 0 (omega arith)) ∙ e in
      rw fails (ap (λ (l : List ℕ). b ∷ l) (past_high bs t (λ k l. high (suc k) (omega arith)) e))

  at_high : (bs t : List ℕ) → are_high bs → 0 < length bs → plain.past_ascii ≡ true → run_to test (bs ++ t) ≡ []
  unfolding run_to
  at_high [] t high some e = absurd (omega arith)
  at_high (b ∷ bs) t high some e =
      let passes : test (b ∷ (bs ++ t)) ≡ true = plain.past b (bs ++ t) (high 0 (omega arith)) ∙ e in
      rw passes refl

  by_test : (c : ℕ) (cs : List ℕ) (b : Bool) → test (c ∷ cs) ≡ b → run_to test (c ∷ cs) ≡ cond b [] (c ∷ run_to test cs)
  unfolding run_to
  by_test c cs b e = rw e refl

  ascii_step : (c : ℕ) (cs : List ℕ) → c < 128 → run_to test (encode_utf8_all cs) ≡ encode_utf8_all (run_to test cs) → (b : Bool) → test (c ∷ cs) ≡ b → run_to test (encode_utf8_all (c ∷ cs)) ≡ encode_utf8_all (run_to test (c ∷ cs))
  ascii_step c cs low later b e =
      let one : encode_utf8_all (c ∷ cs) ≡ c ∷ encode_utf8_all cs = ap (λ (l : List ℕ). l ++ encode_utf8_all cs) (encode_ascii c low) in
      let here : test (c ∷ encode_utf8_all cs) ≡ b = ap test (sym one) ∙ plain.same (c ∷ cs) ∙ e in
      ap (run_to test) one ∙ by_test c (encode_utf8_all cs) b here ∙ both b ∙ ap encode_utf8_all (sym (by_test c cs b e))
    where
      both : (b : Bool) → cond b [] (c ∷ run_to test (encode_utf8_all cs)) ≡ encode_utf8_all (cond b [] (c ∷ run_to test cs))
      both true = refl
      both false = ap (λ (l : List ℕ). c ∷ l) later ∙ sym (ap (λ (l : List ℕ). l ++ encode_utf8_all (run_to test cs)) (encode_ascii c low))

  high_step : (c : ℕ) (cs : List ℕ) → 128 ≤ c → run_to test (encode_utf8_all cs) ≡ encode_utf8_all (run_to test cs) → (b : Bool) → plain.past_ascii ≡ b → run_to test (encode_utf8_all (c ∷ cs)) ≡ encode_utf8_all (run_to test (c ∷ cs))
  high_step c cs high later true e =
      at_high (encode_utf8 c) (encode_utf8_all cs) (high_bytes c high) (some_bytes c) e ∙ ap encode_utf8_all (sym (by_test c cs true (plain.past c cs high ∙ e)))
  high_step c cs high later false e =
      past_high (encode_utf8 c) (encode_utf8_all cs) (high_bytes c high) e ∙ ap (λ (l : List ℕ). encode_utf8 c ++ l) later
      ∙ ap encode_utf8_all (sym (by_test c cs false (plain.past c cs high ∙ e)))

  run_to-encode : (cs : List ℕ) → run_to test (encode_utf8_all cs) ≡ encode_utf8_all (run_to test cs)
  unfolding run_to
  run_to-encode [] = refl
  run_to-encode (c ∷ cs) = ⊎_elim
      (λ (low : c < 128). ascii_step c cs low (run_to-encode cs) (test (c ∷ cs)) refl)
      (λ (high : 128 ≤ c). high_step c cs high (run_to-encode cs) plain.past_ascii refl)
      (cases_lt c 128)

  rest_from-encode : (cs : List ℕ) → rest_from test (encode_utf8_all cs) ≡ encode_utf8_all (rest_from test cs)
  rest_from-encode cs = append_cancel_left (run_to test (encode_utf8_all cs)) _ _
      (run_and_rest test (encode_utf8_all cs)
      ∙ ap encode_utf8_all (sym (run_and_rest test cs))
      ∙ encodes-append (run_to test cs) (rest_from test cs)
      ∙ ap (λ (l : List ℕ). l ++ encode_utf8_all (rest_from test cs)) (sym (run_to-encode cs)))

  scalars-run : (cs : List ℕ) → scalars cs ≡ true → scalars (run_to test cs) ≡ true
  unfolding run_to
  scalars-run [] is = refl
  scalars-run (c ∷ cs) is = let both = and_parts (scalar c) (scalars cs) is in by (test (c ∷ cs)) both.0 (scalars-run cs both.1)
    where
      by : (b : Bool) → scalar c ≡ true → scalars (run_to test cs) ≡ true → scalars (cond b [] (c ∷ run_to test cs)) ≡ true
      by true first later = refl
      by false first later = and_from _ _ first later

  scalars-rest : (cs : List ℕ) → scalars cs ≡ true → scalars (rest_from test cs) ≡ true
  unfolding rest_from
  scalars-rest [] is = refl
  scalars-rest (c ∷ cs) is = by (test (c ∷ cs)) is (scalars-rest cs (and_parts (scalar c) (scalars cs) is).1)
    where
      by : (b : Bool) → scalars (c ∷ cs) ≡ true → scalars (rest_from test cs) ≡ true → scalars (cond b (c ∷ cs) (rest_from test cs)) ≡ true
      by true all later = all
      by false all later = later

-- a text that is cut at a place: both parts are texts, and their characters are those that the test cuts
pub record IsCut (test : List ℕ → Bool) (text : List ℕ) (n : ℕ) : Type 0 where
  pub run_is_text : IsUtf8 (take n text)
  pub rest_is_text : IsUtf8 (drop n text)
  pub run : chars (take n text) ≡ run_to test (chars text)
  pub rest : chars (drop n text) ≡ rest_from test (chars text)
  pub boundary : IsCharBoundary text n

pub cut_there : (test : List ℕ → Bool) (text : List ℕ) (n : ℕ) → IsPlainTest test → IsUtf8 text → IsFirstPlace test text n → IsCut test text n
cut_there test text n plain is first =
    let cs = is.0 in
    let here : cs ≡ chars text = sym (chars-encodes cs is.1.0) ∙ ap chars is.1.1 in
    let run_bytes : encode_utf8_all (run_to test cs) ≡ take n text =
    sym (run_to-encode test plain cs) ∙ ap (run_to test) is.1.1 ∙ sym (run_to-place test text n first) in
    let rest_bytes : encode_utf8_all (rest_from test cs) ≡ drop n text =
    sym (rest_from-encode test plain cs) ∙ ap (rest_from test) is.1.1 ∙ sym (rest_from-place test text n first) in
    let run_ok : scalars (run_to test cs) ≡ true = scalars-run test plain cs is.1.0 in
    let rest_ok : scalars (rest_from test cs) ≡ true = scalars-rest test plain cs is.1.0 in
    let run_text : IsUtf8 (take n text) = (run_to test cs, (run_ok, run_bytes)) in
    record {
      run_is_text = run_text;
      rest_is_text = (rest_from test cs, (rest_ok, rest_bytes));
      run = ap chars (sym run_bytes) ∙ chars-encodes (run_to test cs) run_ok ∙ ap (run_to test) here;
      rest = ap chars (sym rest_bytes) ∙ chars-encodes (rest_from test cs) rest_ok ∙ ap (rest_from test) here;
      boundary = IsCharBoundary-from_take text n is first.within run_text;
    }

-- a test of the first character
pub first_is_plain : (test : ℕ → Bool) (past_ascii : Bool) → ((c : ℕ) → 128 ≤ c → test c ≡ past_ascii) → IsPlainTest (begins_with test)
first_is_plain test past_ascii wide = record {
  past_ascii = past_ascii;
  past = λ b t high. wide b high;
  same = same;
}
  where
    by : (bs t : List ℕ) → are_high bs → 0 < length bs → begins_with test (bs ++ t) ≡ past_ascii
    by [] t high some = absurd (omega arith)
    by (b ∷ bs) t high some = wide b (high 0 (omega arith))

    same : (cs : List ℕ) → begins_with test (encode_utf8_all cs) ≡ begins_with test cs
    same [] = refl
    same (c ∷ cs) = ⊎_elim
        (λ (low : c < 128). ap (λ (l : List ℕ). begins_with test (l ++ encode_utf8_all cs)) (encode_ascii c low))
        (λ (high : 128 ≤ c). by (encode_utf8 c) (encode_utf8_all cs) (high_bytes c high) (some_bytes c) ∙ sym (wide c high))
        (cases_lt c 128)

begins_with-at : (test : ℕ → Bool) (bytes : List ℕ) (k : ℕ) → k < length bytes → begins_with test (drop k bytes) ≡ test (get_or bytes k 0)
begins_with-at test [] k l = absurd (omega arith)
begins_with-at test (b ∷ bytes) zero l = refl
begins_with-at test (b ∷ bytes) (suc k) l = begins_with-at test bytes k (omega arith)

-- the first byte that passes
pub first_byte : (test : ℕ → Bool) (bytes : List ℕ) (n : ℕ) → n ≤ length bytes → ((k : ℕ) → 0 ≤ k → k < n → ¬ (test (get_or bytes k 0) ≡ true))
    → (n < length bytes → test (get_or bytes n 0) ≡ true) → IsFirstPlace (begins_with test) bytes n
first_byte test bytes n within none found = record {
  within = within;
  before = λ k l. begins_with-at test bytes k (omega arith) ∙ false_from_ne_true _ (none k (omega arith) l);
  found = λ l. begins_with-at test bytes n l ∙ found l;
}

occurs : (mark bytes : List ℕ) (k : ℕ) → OccursAt bytes mark k → begins_with_mark mark (drop k bytes) ≡ true
occurs mark bytes k h = (starts_is Decides-eqb (drop k bytes) mark _ refl).1 (drop (k + length mark) bytes) (at_from_reads 0 bytes mark k h.fits h.reads)

occurs_not : (mark bytes : List ℕ) (k : ℕ) → 0 < length mark → ¬ (OccursAt bytes mark k) → begins_with_mark mark (drop k bytes) ≡ false
occurs_not mark bytes k some none = false_from_ne_true _ (λ is.
    let rest = drop (length mark) (drop k bytes) in
    let front : drop k bytes ≡ mark ++ rest = (starts_is Decides-eqb (drop k bytes) mark _ refl).0 is in
    let long : length (drop k bytes) ≡ length (mark ++ rest) = ap length front in
    none (record {
      fits = omega (arith, long, length-append mark rest, length-drop k bytes);
      reads = at_reads 0 bytes mark k rest front;
    }))

-- the first mark
pub first_mark : (mark bytes : List ℕ) (n : ℕ) → 0 < length mark → n ≤ length bytes → ((k : ℕ) → 0 ≤ k → k < n → ¬ (OccursAt bytes mark k))
    → (n < length bytes → OccursAt bytes mark n) → IsFirstPlace (begins_with_mark mark) bytes n
first_mark mark bytes n some within none found = record {
  within = within;
  before = λ k l. occurs_not mark bytes k some (none k (omega arith) l);
  found = λ l. occurs mark bytes n (found l);
}

-- what ends a run
stops_wide : (stop : Stop) → (past_ascii : Bool) × ((c : ℕ) → 128 ≤ c → stops_at stop c ≡ past_ascii)
stops_wide TagName = (false, λ c high. tag_name_wide c high)
  where
    tag_name_wide : (c : ℕ) → 128 ≤ c → ends_tag_name c ≡ false
    tag_name_wide c high = grind (arith, nat_tests)
stops_wide AttributeName = (false, λ c high. attribute_name_wide c high)
  where
    attribute_name_wide : (c : ℕ) → 128 ≤ c → ends_attribute_name c ≡ false
    attribute_name_wide c high = grind (arith, nat_tests)
stops_wide Gap = (true, λ c high. gap_wide c high)
  where
    gap_wide : (c : ℕ) → 128 ≤ c → ends_gap c ≡ true
    gap_wide c high = grind (arith, nat_tests)
stops_wide Space = (true, λ c high. space_wide c high)
  where
    space_wide : (c : ℕ) → 128 ≤ c → ends_space c ≡ true
    space_wide c high = grind (arith, nat_tests)
stops_wide BareValue = (false, λ c high. bare_value_wide c high)
  where
    bare_value_wide : (c : ℕ) → 128 ≤ c → ends_bare_value c ≡ false
    bare_value_wide c high = grind (arith, nat_tests)

pub stop_is_plain : (stop : Stop) → IsPlainTest (begins_with (stops_at stop))
stop_is_plain stop = first_is_plain (stops_at stop) (stops_wide stop).0 (stops_wide stop).1

character_wide : (character c : ℕ) → character < 128 → 128 ≤ c → is_character character c ≡ false
character_wide character c low high = grind (arith, nat_tests)

pub character_is_plain : (character : ℕ) → character < 128 → IsPlainTest (begins_with (is_character character))
character_is_plain character low = first_is_plain (is_character character) false (λ c high. character_wide character c low high)

apart : (n b : ℕ) → n < 128 → 128 ≤ b → nat_eq n b ≡ false
apart n b low high = grind (arith, nat_tests)

mark_past : (mark : List ℕ) (b : ℕ) (t : List ℕ) → 0 < length mark → list_all is_ascii mark ≡ true → 128 ≤ b → begins_with_mark mark (b ∷ t) ≡ false
mark_past [] b t some ascii high = absurd (omega arith)
mark_past (n ∷ mark) b t some ascii high =
    let low : n < 128 = ascii_at (n ∷ mark) ascii 0 in
    rw (apart n b low high) refl

mark_same : (mark cs : List ℕ) → list_all is_ascii mark ≡ true → begins_with_mark mark (encode_utf8_all cs) ≡ begins_with_mark mark cs
mark_same [] cs ascii = refl
mark_same (n ∷ mark) [] ascii = refl
mark_same (n ∷ mark) (c ∷ cs) ascii = ⊎_elim
    (λ (low : c < 128).
    ap (λ (l : List ℕ). begins_with_mark (n ∷ mark) (l ++ encode_utf8_all cs)) (encode_ascii c low)
    ∙ ap (λ (b : Bool). nat_eq n c && b) (mark_same mark cs (and_parts (is_ascii n) (list_all is_ascii mark) ascii).1))
    (λ (high : 128 ≤ c).
    by (encode_utf8 c) (high_bytes c high) (some_bytes c) ∙ sym (mark_past (n ∷ mark) c cs (omega arith) ascii high))
    (cases_lt c 128)
  where
    by : (bs : List ℕ) → are_high bs → 0 < length bs → begins_with_mark (n ∷ mark) (bs ++ encode_utf8_all cs) ≡ false
    by [] high some = absurd (omega arith)
    by (b ∷ bs) high some = mark_past (n ∷ mark) b (bs ++ encode_utf8_all cs) (omega arith) ascii (high 0 (omega arith))

pub mark_is_plain : (mark : List ℕ) → IsMark mark → IsPlainTest (begins_with_mark mark)
mark_is_plain mark is = record {
  past_ascii = false;
  past = λ b t high. mark_past mark b t is.some is.ascii high;
  same = λ cs. mark_same mark cs is.ascii;
}

-- a name that is as long as the text has nothing behind it
pub name_too_long : (name bytes : List ℕ) → length bytes ≤ length name → begins_with_name name bytes ≡ false
unfolding begins_with_name
name_too_long [] [] l = refl
name_too_long [] (b ∷ bytes) l = absurd (omega arith)
name_too_long (n ∷ name) [] l = refl
name_too_long (n ∷ name) (b ∷ bytes) l = rw (name_too_long name bytes (omega arith)) (and_false _)

-- one letter of a name
pub name_letter : (name bytes : List ℕ) (k : ℕ) → k < length name → k < length bytes
    → begins_with_name (drop k name) (drop k bytes) ≡ ((to_ascii_lowercase (get_or bytes k 0) == get_or name k 0) && begins_with_name (drop (suc k) name) (drop (suc k) bytes))
unfolding begins_with_name
name_letter [] bytes k l m = absurd (omega arith)
name_letter (n ∷ name) [] k l m = absurd (omega arith)
name_letter (n ∷ name) (b ∷ bytes) zero l m = refl
name_letter (n ∷ name) (b ∷ bytes) (suc k) l m = name_letter name bytes k (omega arith) (omega arith)

-- what stands behind a name
pub name_end : (name bytes : List ℕ) → length name < length bytes → begins_with_name (drop (length name) name) (drop (length name) bytes) ≡ ends_tag_name (get_or bytes (length name) 0)
unfolding begins_with_name
name_end [] [] l = absurd (omega arith)
name_end [] (b ∷ bytes) l = refl
name_end (n ∷ name) [] l = absurd (omega arith)
name_end (n ∷ name) (b ∷ bytes) l = name_end name bytes (omega arith)

letter_apart : (n b : ℕ) → n < 128 → 128 ≤ b → (to_ascii_lowercase b == n) ≡ false
letter_apart n b low high = grind (arith, nat_tests)

name_past : (n : ℕ) (name : List ℕ) (b : ℕ) (t : List ℕ) → n < 128 → 128 ≤ b → begins_with_name (n ∷ name) (b ∷ t) ≡ false
unfolding begins_with_name
name_past n name b t low high = rw (letter_apart n b low high) refl

name_same : (name cs : List ℕ) → list_all is_ascii name ≡ true → begins_with_name name (encode_utf8_all cs) ≡ begins_with_name name cs
unfolding begins_with_name
name_same [] cs ascii = let plain = stop_is_plain TagName in plain.same cs
name_same (n ∷ name) [] ascii = refl
name_same (n ∷ name) (c ∷ cs) ascii = ⊎_elim
    (λ (low : c < 128).
    ap (λ (l : List ℕ). begins_with_name (n ∷ name) (l ++ encode_utf8_all cs)) (encode_ascii c low)
    ∙ ap (λ (b : Bool). (to_ascii_lowercase c == n) && b) (name_same name cs (and_parts (is_ascii n) (list_all is_ascii name) ascii).1))
    (λ (high : 128 ≤ c).
    by (encode_utf8 c) (high_bytes c high) (some_bytes c) ∙ sym (name_past n name c cs (ascii_at (n ∷ name) ascii 0) high))
    (cases_lt c 128)
  where
    by : (bs : List ℕ) → are_high bs → 0 < length bs → begins_with_name (n ∷ name) (bs ++ encode_utf8_all cs) ≡ false
    by [] high some = absurd (omega arith)
    by (b ∷ bs) high some = name_past n name b (bs ++ encode_utf8_all cs) (ascii_at (n ∷ name) ascii 0) (high 0 (omega arith))

end_mark_past : (name : List ℕ) (b : ℕ) (t : List ℕ) → 128 ≤ b → is_end_mark name (b ∷ t) ≡ false
unfolding is_end_mark
end_mark_past name b t high =
    ap (λ (x : Bool). x && begins_with_name name (drop 2 (b ∷ t))) (mark_past (codes "</") b t (lit< tt) refl high)

end_mark_same : (name cs : List ℕ) → list_all is_ascii name ≡ true → is_end_mark name (encode_utf8_all cs) ≡ is_end_mark name cs
unfolding is_end_mark
end_mark_same name cs ascii = by (begins_with_mark (codes "</") cs) refl
  where
    by : (b : Bool) → begins_with_mark (codes "</") cs ≡ b
        → (begins_with_mark (codes "</") (encode_utf8_all cs) && begins_with_name name (drop 2 (encode_utf8_all cs))) ≡ (begins_with_mark (codes "</") cs && begins_with_name name (drop 2 cs))
    by false e = rw (mark_same (codes "</") cs refl, e) refl
    by true e =
        let behind = drop 2 cs in
        let front : cs ≡ codes "</" ++ behind = (starts_is Decides-eqb cs (codes "</") _ refl).0 e in
        let bytes : encode_utf8_all cs ≡ codes "</" ++ encode_utf8_all behind =
        ap encode_utf8_all front ∙ encodes-append (codes "</") behind
        ∙ ap (λ (l : List ℕ). l ++ encode_utf8_all behind) (encodes-IsAscii (codes "</") (ascii_at (codes "</") refl)) in
        rw (mark_same (codes "</") cs refl, e) (ap (λ (l : List ℕ). begins_with_name name (drop 2 l)) bytes ∙ name_same name behind ascii)

pub end_mark_is_plain : (name : List ℕ) → IsMark name → IsPlainTest (is_end_mark name)
end_mark_is_plain name is = record {
  past_ascii = false;
  past = λ b t high. end_mark_past name b t high;
  same = λ cs. end_mark_same name cs is.ascii;
}

-- the text behind its first character
pub behind_first : {S : Type 0} (rest_of : S → List ℕ) (before after : S) (text : List ℕ) (r : Option ℕ) → IsUtf8 text → rest_of before ≡ text
    → MatchOption r ((length (rest_of before) ≡ 0) × (after ≡ before)) (λ c. rest_of before ≡ encode_utf8 c ++ rest_of after)
    → chars (rest_of after) ≡ drop 1 (chars text)
behind_first rest_of before after text (Some c) is start h = sym (ap (drop 1) (chars_past_char text (rest_of after) c is (sym start ∙ h)))
behind_first rest_of before after text None is start h =
    let none : length text ≡ 0 = sym (ap length start) ∙ h.0 in
    ap chars (ap rest_of h.1 ∙ start) ∙ by text none
  where
    by : (t : List ℕ) → length t ≡ 0 → chars t ≡ drop 1 (chars t)
    by [] e = chars-nil ∙ sym (ap (drop 1) chars-nil)
    by (b ∷ t) e = absurd (omega arith)

pub whole_rest : (n : ℕ) (bytes : List ℕ) → take (length bytes - n) (drop n bytes) ≡ drop n bytes
whole_rest n bytes = take_all (length bytes - n) (drop n bytes) (omega (arith, length-drop n bytes))

pub letter_differs : (name bytes whole_name whole : List ℕ) (k : ℕ) → k < length name → k < length bytes → (to_ascii_lowercase (get_or bytes k 0) == get_or name k 0) ≡ false
    → begins_with_name (drop k name) (drop k bytes) ≡ begins_with_name whole_name whole → false ≡ begins_with_name whole_name whole
letter_differs name bytes whole_name whole k l m differs e =
    sym (name_letter name bytes k l m ∙ ap (λ (b : Bool). b && begins_with_name (drop (suc k) name) (drop (suc k) bytes)) differs) ∙ e

pub letter_is : (name bytes whole_name whole : List ℕ) (k : ℕ) → k < length name → k < length bytes → (to_ascii_lowercase (get_or bytes k 0) == get_or name k 0) ≡ true
    → begins_with_name (drop k name) (drop k bytes) ≡ begins_with_name whole_name whole → begins_with_name (drop (k + 1) name) (drop (k + 1) bytes) ≡ begins_with_name whole_name whole
letter_is name bytes whole_name whole k l m same e =
    ap (λ (j : ℕ). begins_with_name (drop j name) (drop j bytes)) (add-one k)
    ∙ sym (name_letter name bytes k l m ∙ ap (λ (b : Bool). b && begins_with_name (drop (suc k) name) (drop (suc k) bytes)) same) ∙ e

pub no_end_mark : (name bytes : List ℕ) → begins_with_mark (codes "</") bytes ≡ false → false ≡ is_end_mark name bytes
unfolding is_end_mark
no_end_mark name bytes e = rw e refl

pub end_mark_begun : (name bytes : List ℕ) → begins_with_mark (codes "</") bytes ≡ true → begins_with_name name (drop 2 bytes) ≡ is_end_mark name bytes
unfolding is_end_mark
end_mark_begun name bytes e = rw e refl

pub name_end_at : (name bytes whole : List ℕ) (k : ℕ) → length name ≡ k → length name < length bytes
    → begins_with_name (drop k name) (drop k bytes) ≡ begins_with_name name whole → ends_tag_name (get_or bytes (length name) 0) ≡ begins_with_name name whole
name_end_at name bytes whole k is l e =
    sym (name_end name bytes l) ∙ ap (λ (j : ℕ). begins_with_name (drop j name) (drop j bytes)) is ∙ e
