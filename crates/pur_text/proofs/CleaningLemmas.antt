-- How cleaning goes over bytes and characters from the front.
use Rattle.std.proofs.Common.{◌≡◌, ℕ, zero, suc, ◌-◌, ◌<◌, ◌≤◌, true, false, List, [], ◌∷◌, ◌++◌, length, drop, filter, slice_index, None, IsUtf8, encode_utf8, encode_utf8_all, refl, sym, ap, ◌∙◌, arith, ⊎_elim, append_assoc, append-nil, length-append, length-drop, drop_at}
use Rattle.std.specs.Prelude.{◌==◌, Option}
use Rattle.std.specs.List.{list_all}
use Rattle.std.specs.Str.{chars}
use Rattle.std.proofs.lemmas.Bool.{cases_lt, cond-true, cond-false, and_parts}
use Rattle.std.proofs.lemmas.Bool.Decides.{nat_tests}
use Rattle.std.proofs.lemmas.List.Elements.{filter-append}
use Rattle.std.proofs.lemmas.Str.{chars-nil, chars-append, chars_past_char, chars-encodes, byte_from_char, char_from_byte, utf8_valid_len-IsUtf8, length-encode, len_utf8_bounds}
use lib.Utf8.{scalars, scalar}
use Rattle.std.specs.Str.Lossy.{utf8_valid_len, utf8_invalid_len}
use Rattle.bstr.specs.Utf8.{Decoded, decoded, continues, good}
use Rattle.bstr.proofs.lemmas.EncodeLemmas.{decoded-encode}
use Rattle.std.proofs.lemmas.List.{nil_from_length}
use Rattle.bstr.proofs.lemmas.LossyLemmas.{utf8_valid_len-cases, utf8_invalid_len-decoded}
use Rattle.bstr.proofs.lemmas.UnicodeLemmas.{none_after_valid}
use Rattle.bstr.proofs.lemmas.PieceLemmas.{continuation-alone, tail-continues, piece-bounds}
use Rattle.pur_laws.proofs.Lists.{all-kept}
use Rattle.pur_text.specs.Characters.{is_allowed}
use Rattle.pur_text.specs.Cleaning.{character_list, bytes_behind_first, chars_behind, chars_of, line_feed_for, with_line_feeds, cleaned}

-- skipping is dropping
pub chars_behind-drop : (n : ℕ) (bytes : List ℕ) → chars_behind n bytes ≡ chars_of (drop n bytes)
unfolding chars_behind
chars_behind-drop zero bytes = refl
chars_behind-drop (suc n) [] = refl
chars_behind-drop (suc n) (b ∷ bytes) = chars_behind-drop n bytes

-- one character at the front
pub chars_of-character : (b c size : ℕ) (bytes : List ℕ) → decoded (b ∷ bytes) ≡ good c size → chars_of (b ∷ bytes) ≡ c ∷ chars_of (drop (size - 1) bytes)
unfolding chars_behind
chars_of-character b c size bytes e =
    ap (λ (d : Decoded). character_list d.char ++ chars_behind (bytes_behind_first d.char d.size) bytes) e
    ∙ ap (λ t. c ∷ t) (chars_behind-drop (size - 1) bytes)

-- no character at the front
pub chars_of-dropped : (b : ℕ) (bytes : List ℕ) → (decoded (b ∷ bytes)).char ≡ None → chars_of (b ∷ bytes) ≡ chars_of bytes
unfolding chars_behind
chars_of-dropped b bytes e =
    ap (λ (o : Option ℕ). character_list o ++ chars_behind (bytes_behind_first o (decoded (b ∷ bytes)).size) bytes) e

-- a byte that only continues a character
pub chars_of-continues : (b : ℕ) (bytes : List ℕ) → continues b ≡ true → chars_of (b ∷ bytes) ≡ chars_of bytes
chars_of-continues b bytes is =
    let l = b ∷ bytes in
    let none = continuation-alone (length l) b (slice_index l 1) (slice_index l 2) (slice_index l 3) (omega arith) is in
    chars_of-dropped b bytes (ap (λ (d : Decoded). d.char) none)

-- a character's bytes at the front
pub encoded_front : (first tail : List ℕ) (c : ℕ) → 0 < length first → decoded (first ++ tail) ≡ good c (length first) → chars_of (first ++ tail) ≡ c ∷ chars_of tail
encoded_front [] tail c some e = absurd (omega arith)
encoded_front (b ∷ first) tail c some e =
    chars_of-character b c (length (b ∷ first)) (first ++ tail) e ∙ ap (λ t. c ∷ chars_of t) (drop_at first tail _ (omega arith))

-- the characters of a text, and those of the bytes behind it
pub chars_of-front : (cs rest : List ℕ) → scalars cs ≡ true → chars_of (encode_utf8_all cs ++ rest) ≡ cs ++ chars_of rest
chars_of-front [] rest all = refl
chars_of-front (c ∷ cs) rest all =
    let both = and_parts _ _ all in
    let first = encode_utf8 c in
    let tail = encode_utf8_all cs ++ rest in
    let read = decoded-encode c tail both.0 in
    let same = append_assoc first (encode_utf8_all cs) rest in
    ap chars_of same ∙ encoded_front first tail c (omega (arith, length-encode c, len_utf8_bounds c)) read ∙ ap (λ t. c ∷ t) (chars_of-front cs rest both.1)

pub chars_of-IsUtf8 : (bytes : List ℕ) → IsUtf8 bytes → chars_of bytes ≡ chars bytes
unfolding chars_behind
chars_of-IsUtf8 bytes h =
    let cs = h.0 in
    let all = h.1.0 in
    let is = h.1.1 in
    let here : chars_of (encode_utf8_all cs) ≡ cs = ap chars_of (sym (append-nil (encode_utf8_all cs))) ∙ chars_of-front cs [] all ∙ append-nil cs in
    ap chars_of (sym is) ∙ here ∙ sym (chars-encodes cs all) ∙ ap chars is

-- bytes that only continue a character
skip_continuing : (k : ℕ) (bytes : List ℕ) → ((i : ℕ) → i < k → continues (slice_index bytes i) ≡ true) → chars_of bytes ≡ chars_of (drop k bytes)
skip_continuing zero bytes all = refl
skip_continuing (suc k) [] all = refl
skip_continuing (suc k) (b ∷ bytes) all =
    chars_of-continues b bytes (all 0 (omega arith)) ∙ skip_continuing k bytes (λ i lt. all (suc i) (omega arith))

-- the bytes of a piece behind its first
tail_at : (size : ℕ) (bytes : List ℕ) → size ≤ 4
    → (2 ≤ size → continues (slice_index bytes 0) ≡ true) → (3 ≤ size → continues (slice_index bytes 1) ≡ true) → (4 ≤ size → continues (slice_index bytes 2) ≡ true)
    → (i : ℕ) → i < size - 1 → continues (slice_index bytes i) ≡ true
tail_at size bytes most second third fourth zero lt = second (omega arith)
tail_at size bytes most second third fourth (suc zero) lt = third (omega arith)
tail_at size bytes most second third fourth (suc (suc zero)) lt = fourth (omega arith)
tail_at size bytes most second third fourth (suc (suc (suc i))) lt = absurd (omega arith)

-- what could begin a character and doesn't
pub chars_of-bad : (bytes : List ℕ) → 0 < length bytes → (decoded bytes).char ≡ None → chars_of bytes ≡ chars_of (drop (decoded bytes).size bytes)
chars_of-bad [] some none = absurd (omega arith)
chars_of-bad (b ∷ bytes) some none =
    let l = b ∷ bytes in
    let size = (decoded l).size in
    let bounds = piece-bounds l some in
    let tails = tail-continues (length l) b (slice_index l 1) (slice_index l 2) (slice_index l 3) in
    let back : suc (size - 1) ≡ size = omega arith in
    chars_of-dropped b bytes none
    ∙ skip_continuing (size - 1) bytes (tail_at size bytes bounds.1 tails.0 tails.1 tails.2)
    ∙ ap (λ n. chars_of (drop n l)) back

-- the first character, and those behind it
pub tidied_step : (c : ℕ) (behind : List ℕ)
    → filter is_allowed (with_line_feeds (c ∷ behind)) ≡ filter is_allowed (line_feed_for c behind) ++ filter is_allowed (with_line_feeds behind)
unfolding with_line_feeds
tidied_step c behind = filter-append is_allowed (line_feed_for c behind) (with_line_feeds behind)

-- an allowed character is no CR
allowed_plain : (c : ℕ) → is_allowed c ≡ true → (c == 0xD) ≡ false
allowed_plain c is = grind (arith, nat_tests)

-- allowed characters stay as they are
pub tidied_run : (run rest : List ℕ) → list_all is_allowed run ≡ true
    → filter is_allowed (with_line_feeds (run ++ rest)) ≡ run ++ filter is_allowed (with_line_feeds rest)
unfolding with_line_feeds
tidied_run [] rest all = refl
tidied_run (c ∷ run) rest all =
    let both = and_parts _ _ all in
    let behind = run ++ rest in
    let plain : line_feed_for c behind ≡ c ∷ [] = cond-false _ _ _ (allowed_plain c both.0) in
    ap (λ l. filter is_allowed (l ++ with_line_feeds behind)) plain ∙ cond-true _ _ _ both.0
    ∙ ap (λ t. c ∷ t) (tidied_run run rest both.1)

-- a text begins with LF where its bytes do
first_encoded : (cs : List ℕ) → slice_index cs 0 == 0xA ≡ (slice_index (encode_utf8_all cs) 0 == 0xA)
first_encoded [] = refl
first_encoded (c ∷ cs) =
    let rest = encode_utf8_all cs in
    let bytes = encode_utf8 c ++ rest in
    let first = slice_index bytes 0 in
    let some : 0 < length bytes = omega (arith, length-append (encode_utf8 c) rest, length-encode c, len_utf8_bounds c) in
    ⊎_elim
    (λ (low : c < 128). sym (ap (λ n. n == 0xA) (byte_from_char bytes rest c refl low)))
    (λ (high : 128 ≤ c).
    let wide : 128 ≤ first = ⊎_elim
    (λ (narrow : first < 128). let same : c ≡ first = char_from_byte bytes rest c refl narrow some in absurd (omega arith))
    (λ (w : 128 ≤ first). w)
    (cases_lt first 128) in
    grind (arith, nat_tests))
    (cases_lt c 128)

pub first_line_feed : (bytes : List ℕ) → IsUtf8 bytes → slice_index (chars bytes) 0 == 0xA ≡ (slice_index bytes 0 == 0xA)
first_line_feed bytes h =
    let cs = h.0 in
    let here : chars bytes ≡ cs = ap chars (sym h.1.1) ∙ chars-encodes cs h.1.0 in
    ap (λ l. slice_index l 0 == 0xA) here ∙ first_encoded cs ∙ ap (λ l. slice_index l 0 == 0xA) h.1.1

-- a CR before an LF, and one before anything else
pub pair_dropped : (behind : List ℕ) → IsUtf8 behind → (slice_index behind 0 == 0xA) ≡ true → filter is_allowed (line_feed_for 0xD (chars behind)) ≡ []
pair_dropped behind text is = rw (first_line_feed behind text, is) refl

pub alone_replaced : (behind : List ℕ) → IsUtf8 behind → (slice_index behind 0 == 0xA) ≡ false → filter is_allowed (line_feed_for 0xD (chars behind)) ≡ 0xA ∷ []
alone_replaced behind text is = rw (first_line_feed behind text, is) refl

-- a run was copied
pub run_copied : (clean run tail more rest whole : List ℕ) → IsUtf8 clean → IsUtf8 run → more ≡ clean ++ run → rest ≡ run ++ tail
    → list_all is_allowed (chars run) ≡ true
    → chars clean ++ filter is_allowed (with_line_feeds (chars rest)) ≡ whole
    → chars more ++ filter is_allowed (with_line_feeds (chars tail)) ≡ whole
run_copied clean run tail more rest whole is_clean is_run more_is rest_is allowed e =
    let tidied : List ℕ → List ℕ = λ cs. filter is_allowed (with_line_feeds cs) in
    ap (λ t. chars t ++ tidied (chars tail)) more_is
    ∙ ap (λ t. t ++ tidied (chars tail)) (chars-append clean run is_clean)
    ∙ append_assoc (chars clean) (chars run) (tidied (chars tail))
    ∙ ap (λ t. chars clean ++ t) (sym (tidied_run (chars run) (chars tail) allowed))
    ∙ ap (λ t. chars clean ++ tidied t) (sym (chars-append run tail is_run))
    ∙ ap (λ t. chars clean ++ tidied (chars t)) (sym rest_is)
    ∙ e

-- the text at the front is read
pub chars_of-text : (text rest : List ℕ) → IsUtf8 text → chars_of (text ++ rest) ≡ chars text ++ chars_of rest
chars_of-text text rest h =
    let cs = h.0 in
    let here : cs ≡ chars text = sym (chars-encodes cs h.1.0) ∙ ap chars h.1.1 in
    ap (λ t. chars_of (t ++ rest)) (sym h.1.1) ∙ chars_of-front cs rest h.1.0 ∙ ap (λ t. t ++ chars_of rest) here

-- what stands behind it is dropped
invalid_dropped : (bytes invalid rest : List ℕ) → drop (utf8_valid_len bytes) bytes ≡ invalid ++ rest
    → length invalid ≡ utf8_invalid_len (drop (utf8_valid_len bytes) bytes) → chars_of (invalid ++ rest) ≡ chars_of rest
invalid_dropped bytes invalid rest behind invalid_len =
    let n = utf8_valid_len bytes in
    let tail = drop n bytes in
    ⊎_elim
    (λ whole.
    let none : length (invalid ++ rest) ≡ 0 = omega (arith, utf8_valid_len-IsUtf8 bytes whole, length-drop n bytes, ap length behind) in
    let no_invalid : length invalid ≡ 0 = omega (arith, length-append invalid rest) in
    let no_rest : length rest ≡ 0 = omega (arith, length-append invalid rest) in
    ap chars_of (nil_from_length (invalid ++ rest) none ∙ sym (nil_from_length rest no_rest)))
    (λ valid.
    let short = valid.short in
    let some : 0 < length tail = omega (arith, length-drop n bytes) in
    let none = none_after_valid bytes n valid in
    let size : length invalid ≡ (decoded tail).size = invalid_len ∙ utf8_invalid_len-decoded tail none in
    ap chars_of (sym behind) ∙ chars_of-bad tail some none ∙ ap (λ t. chars_of (drop (decoded tail).size t)) behind
    ∙ ap chars_of (drop_at invalid rest _ size))
    (utf8_valid_len-cases bytes)

-- a chunk was read: the text of it, and what it drops
pub chunk_read : (bytes valid invalid rest : List ℕ) → IsUtf8 valid → bytes ≡ valid ++ (invalid ++ rest)
    → length valid ≡ utf8_valid_len bytes → length invalid ≡ utf8_invalid_len (drop (utf8_valid_len bytes) bytes)
    → chars_of bytes ≡ chars valid ++ chars_of rest
chunk_read bytes valid invalid rest is_text is valid_len invalid_len =
    let behind = ap (drop (utf8_valid_len bytes)) is ∙ drop_at valid (invalid ++ rest) _ valid_len in
    ap chars_of is ∙ chars_of-text valid (invalid ++ rest) is_text
    ∙ ap (λ t. chars valid ++ t) (invalid_dropped bytes invalid rest behind invalid_len)

-- and joined to what was read before
pub chunk_joined : (text valid more : List ℕ) (bytes rest whole : List ℕ) → IsUtf8 text → more ≡ text ++ valid
    → chars_of bytes ≡ chars valid ++ chars_of rest → chars text ++ chars_of bytes ≡ whole → chars more ++ chars_of rest ≡ whole
chunk_joined text valid more bytes rest whole is_text more_is read e =
    ap (λ t. chars t ++ chars_of rest) more_is ∙ ap (λ t. t ++ chars_of rest) (chars-append text valid is_text)
    ∙ append_assoc (chars text) (chars valid) (chars_of rest) ∙ ap (λ t. chars text ++ t) (sym read) ∙ e

-- what stands for the first character was written
pub first_written : (before after text behind : List ℕ) (c : ℕ) (kept : List ℕ) → IsUtf8 text → text ≡ encode_utf8 c ++ behind
    → kept ≡ filter is_allowed (line_feed_for c (chars behind)) → after ≡ before ++ kept
    → after ++ filter is_allowed (with_line_feeds (chars behind)) ≡ before ++ filter is_allowed (with_line_feeds (chars text))
first_written before after text behind c kept is_text text_is kept_is after_is =
    let later = filter is_allowed (with_line_feeds (chars behind)) in
    ap (λ t. t ++ later) after_is ∙ append_assoc before kept later
    ∙ ap (λ t. before ++ (t ++ later)) kept_is ∙ ap (λ t. before ++ t) (sym (tidied_step c (chars behind)))
    ∙ ap (λ cs. before ++ filter is_allowed (with_line_feeds cs)) (sym (chars_past_char text behind c is_text text_is))

-- nothing was read yet, and all was read
pub nothing_read : (text rest bytes : List ℕ) → text ≡ [] → rest ≡ bytes → chars text ++ chars_of rest ≡ chars_of bytes
nothing_read text rest bytes none whole = rw (none, whole, chars-nil) refl

pub all_read : (text rest : List ℕ) (whole : List ℕ) → rest ≡ [] → chars text ++ chars_of rest ≡ whole → chars text ≡ whole
unfolding chars_behind
all_read text rest whole none e = sym (append-nil (chars text)) ∙ ap (λ t. chars text ++ chars_of t) (sym none) ∙ e

-- the same of copying
pub nothing_copied : (clean rest : List ℕ) → clean ≡ [] → chars clean ++ rest ≡ rest
nothing_copied clean rest none = rw (none, chars-nil) refl

pub all_copied : (clean run more whole : List ℕ) → IsUtf8 clean → IsUtf8 run → more ≡ clean ++ run → list_all is_allowed (chars run) ≡ true
    → chars clean ++ filter is_allowed (with_line_feeds (chars run)) ≡ whole → chars more ≡ whole
unfolding with_line_feeds
all_copied clean run more whole is_clean is_run more_is allowed e =
    let last = run_copied clean run [] more run whole is_clean is_run more_is (sym (append-nil run)) allowed e in
    sym (append-nil (chars more)) ∙ ap (λ cs. chars more ++ filter is_allowed (with_line_feeds cs)) (sym chars-nil) ∙ last

-- ---- laws of cleaning

-- what bytes are cleaned to has only allowed characters
pub cleaned_allowed : (bytes : List ℕ) → list_all is_allowed (cleaned bytes) ≡ true
unfolding cleaned
cleaned_allowed bytes = all-kept is_allowed (with_line_feeds (chars_of bytes))

-- an allowed character is a character
pub allowed_scalar : (c : ℕ) → is_allowed c ≡ true → scalar c ≡ true
allowed_scalar c is = grind (arith, nat_tests)

pub allowed_scalars : (text : List ℕ) → list_all is_allowed text ≡ true → scalars text ≡ true
allowed_scalars [] all = refl
allowed_scalars (c ∷ text) all =
    let both = and_parts _ _ all in
    let first : scalar c ≡ true = allowed_scalar c both.0 in
    rw first (allowed_scalars text both.1)

-- allowed characters alone stay
pub tidied_allowed : (text : List ℕ) → list_all is_allowed text ≡ true → filter is_allowed (with_line_feeds text) ≡ text
unfolding with_line_feeds
tidied_allowed text all =
    ap (λ t. filter is_allowed (with_line_feeds t)) (sym (append-nil text)) ∙ tidied_run text [] all ∙ append-nil text

-- a text of allowed characters, as bytes and as characters
pub cleaned_text : (bytes : List ℕ) → IsUtf8 bytes → list_all is_allowed (chars bytes) ≡ true → cleaned bytes ≡ chars bytes
unfolding cleaned
cleaned_text bytes text all =
    ap (λ t. filter is_allowed (with_line_feeds t)) (chars_of-IsUtf8 bytes text) ∙ tidied_allowed (chars bytes) all

pub cleaned_encoded : (text : List ℕ) → list_all is_allowed text ≡ true → cleaned (encode_utf8_all text) ≡ text
unfolding chars_behind cleaned
cleaned_encoded text all =
    let bytes = encode_utf8_all text in
    let read : chars_of bytes ≡ text =
    ap chars_of (sym (append-nil bytes)) ∙ chars_of-front text [] (allowed_scalars text all) ∙ append-nil text in
    ap (λ t. filter is_allowed (with_line_feeds t)) read ∙ tidied_allowed text all

-- cleaning twice is cleaning once
pub cleaned_twice : (bytes : List ℕ) → cleaned (encode_utf8_all (cleaned bytes)) ≡ cleaned bytes
cleaned_twice bytes = cleaned_encoded (cleaned bytes) (cleaned_allowed bytes)
