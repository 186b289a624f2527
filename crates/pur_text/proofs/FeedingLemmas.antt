-- How a text is cleaned in pieces.
use Rattle.std.proofs.Common.{◌≡◌, ℕ, ◌+◌, ◌-◌, ◌<◌, ◌≤◌, Bool, true, false, if◌then◌else◌, List, [], ◌∷◌, ◌++◌, length, take, drop, filter, slice_index, IsUtf8, encode_utf8, encode_utf8_all, true≢false, refl, sym, ap, subst, ◌∙◌, arith, ⊎_elim, append_assoc, append-nil, length-append}
use Rattle.std.specs.Prelude.{◌==◌, ◌&&◌}
use Rattle.std.specs.Str.{chars}
use Rattle.std.proofs.Math.Seq.{take-append_seam}
use Rattle.std.proofs.lemmas.Bool.{and_parts, cases_lt, ne_eqb}
use Rattle.std.proofs.lemmas.Bool.Decides.{nat_tests}
use Rattle.std.specs.String.Boundary.{IsSplitPoint}
use Rattle.std.proofs.lemmas.List.{get_or-append-add}
use Rattle.std.proofs.lemmas.Str.{encode_ascii, encodes-chars, inside_one, len_utf8_bounds, length-encode, length-le-encodes, IsCharBoundary-from_take}
use Rattle.pur_laws.proofs.Texts.{chars_past}
use Rattle.pur_text.specs.Characters.{is_allowed}
use Rattle.pur_text.specs.Cleaning.{line_feed_for, with_line_feeds, chars_of, chars_behind, cleaned}
use Rattle.pur_text.specs.Feeding.{line_feeds_behind, text_with, ends_in_cr}
use Rattle.pur_text.specs.Private.Feeding.{BeginsWith, MayGoOn}
use Rattle.bstr.specs.Utf8.{continues}
use Rattle.pur_text.proofs.CutLemmas.{parted}
use Rattle.pur_text.proofs.CleaningLemmas.{first_line_feed, tidied_step}

pub begins_itself : (text : List ℕ) → BeginsWith text text
begins_itself text = ([], sym (append-nil text))

pub begins_on : (front text behind : List ℕ) → BeginsWith front text → BeginsWith text behind → BeginsWith front behind
begins_on front text behind first second =
    (first.0 ++ second.0, second.1 ∙ ap (λ t. t ++ second.0) first.1 ∙ append_assoc front first.0 second.0)

pub begins_same : (text new : List ℕ) → new ≡ text → BeginsWith text new
begins_same text new e = ([], e ∙ sym (append-nil text))

-- and what was there is found again
pub front_again : (front text : List ℕ) → BeginsWith front text → take (length front) text ≡ front
front_again front text begins = ap (take (length front)) begins.1 ∙ take-append_seam front begins.0

-- with line feeds and allowed
tidied : List ℕ → List ℕ
tidied cs = filter is_allowed (with_line_feeds cs)

-- behind a last character
last_tidied : (c : ℕ) (more : List ℕ)
    → filter is_allowed (with_line_feeds (c ∷ more)) ≡ filter is_allowed (with_line_feeds (c ∷ [])) ++ filter is_allowed (line_feeds_behind (c == 0xD) more)
unfolding with_line_feeds
last_tidied c more = tidied_step c more ∙ by_last c more (c == 0xD) refl
  where
    by_next : (c d : ℕ) (more : List ℕ) → (c == 0xD) ≡ true → (lf : Bool) → (d == 0xA) ≡ lf
        → filter is_allowed (line_feed_for c (d ∷ more)) ++ filter is_allowed (with_line_feeds (d ∷ more))
        ≡ filter is_allowed (with_line_feeds (c ∷ [])) ++ filter is_allowed (line_feeds_behind true (d ∷ more))
    by_next c d more is_cr false is_lf = rw (is_cr, is_lf) refl
    by_next c d more is_cr true is_lf =
        let same : d ≡ 0xA = grind (arith, nat_tests) in
        rw (is_cr, same) refl

    by_last : (c : ℕ) (more : List ℕ) (cr : Bool) → (c == 0xD) ≡ cr
        → filter is_allowed (line_feed_for c more) ++ filter is_allowed (with_line_feeds more)
        ≡ filter is_allowed (with_line_feeds (c ∷ [])) ++ filter is_allowed (line_feeds_behind cr more)
    by_last c more false is_cr = rw is_cr refl
    by_last c [] true is_cr = rw is_cr refl
    by_last c (d ∷ more) true is_cr = by_next c d more is_cr (d == 0xA) refl

-- behind others, of which there are some
tidied_on : (c : ℕ) (front more : List ℕ)
    → filter is_allowed (with_line_feeds ((c ∷ front) ++ more))
    ≡ filter is_allowed (with_line_feeds (c ∷ front)) ++ filter is_allowed (line_feeds_behind (ends_in_cr (c ∷ front)) more)
tidied_on c [] more = last_tidied c more
tidied_on c (d ∷ front) more =
    let first = filter is_allowed (line_feed_for c (d ∷ front)) in
    let behind = filter is_allowed (line_feeds_behind (ends_in_cr (d ∷ front)) more) in
    tidied_step c ((d ∷ front) ++ more) ∙ ap (λ t. first ++ t) (tidied_on d front more)
    ∙ sym (append_assoc first (filter is_allowed (with_line_feeds (d ∷ front))) behind) ∙ ap (λ t. t ++ behind) (sym (tidied_step c (d ∷ front)))

-- behind an LF that belongs to a CR
behind_pair : (text front more : List ℕ)
    → (text ++ filter is_allowed (with_line_feeds front)) ++ filter is_allowed (line_feeds_behind (ends_in_cr (0xA ∷ front)) more)
    ≡ text ++ filter is_allowed (with_line_feeds (front ++ more))
unfolding with_line_feeds
behind_pair text [] more = ap (λ t. t ++ filter is_allowed (with_line_feeds more)) (append-nil text)
behind_pair text (d ∷ front) more =
    let whole = filter is_allowed (with_line_feeds (d ∷ front)) in
    append_assoc text whole (filter is_allowed (line_feeds_behind (ends_in_cr (d ∷ front)) more))
    ∙ ap (λ t. text ++ t) (sym (tidied_on d front more))

-- the text with these characters, and then with those
pub put_on : (text : List ℕ) (after_cr : Bool) (front more : List ℕ) → 0 < length front
    → text_with (text ++ filter is_allowed (line_feeds_behind after_cr front)) (ends_in_cr front) more ≡ text_with text after_cr (front ++ more)
put_on text after_cr [] more some = absurd (omega arith)
put_on text after_cr (c ∷ front) more some = by_first (after_cr && c == 0xA) refl
  where
    by_first : (passed : Bool) → (after_cr && c == 0xA) ≡ passed
        → text_with (text ++ filter is_allowed (line_feeds_behind after_cr (c ∷ front))) (ends_in_cr (c ∷ front)) more ≡ text_with text after_cr ((c ∷ front) ++ more)
    by_first false apart =
        let whole = filter is_allowed (with_line_feeds (c ∷ front)) in
        let behind = filter is_allowed (line_feeds_behind (ends_in_cr (c ∷ front)) more) in
        rw apart (append_assoc text whole behind ∙ ap (λ t. text ++ t) (sym (tidied_on c front more)))
    by_first true pair =
        let both = and_parts after_cr (c == 0xA) pair in
        let second : (c == 0xA) ≡ true = both.1 in
        let same : c ≡ 0xA = grind (arith, nat_tests) in
        subst
        (λ d. text_with (text ++ filter is_allowed (line_feeds_behind after_cr (d ∷ front))) (ends_in_cr (d ∷ front)) more ≡ text_with text after_cr ((d ∷ front) ++ more))
        (sym same) (rw both.0 (behind_pair text front more))

-- ---- the calls

-- an LF in front is a character of its own
pub behind_line_feed : (bytes : List ℕ) → (slice_index bytes 0 == 0xA) ≡ true → chars (drop 1 bytes) ≡ drop 1 (chars bytes)
behind_line_feed [] is = absurd (true≢false (sym is))
behind_line_feed (b ∷ bytes) is =
    let same : b ≡ 0xA = grind (arith, nat_tests) in
    rw same (ap (drop 1) (sym (chars_past (0xA ∷ []) bytes refl)))

-- what stands behind it is what the definition takes
pub passed_over : (text result : List ℕ) → IsUtf8 text → (slice_index text 0 == 0xA) ≡ true → result ≡ drop 1 text
    → chars result ≡ (if slice_index (chars text) 0 == 0xA then drop 1 (chars text) else chars text)
passed_over text result is_text is same =
    rw (first_line_feed text is_text ∙ is) (ap chars same ∙ behind_line_feed text is)

-- a last byte is a CR where the last character is one
final_byte : (cs : List ℕ) → 0 < length cs → ends_in_cr cs ≡ (slice_index (encode_utf8_all cs) (length (encode_utf8_all cs) - 1) == 0xD)
final_byte [] some = absurd (omega arith)
final_byte (c ∷ []) some =
    let bytes = encode_utf8 c ++ [] in
    let last = slice_index bytes (length bytes - 1) in
    let width = length-append (encode_utf8 c) [] in
    let sizes = len_utf8_bounds c in
    ⊎_elim
    (λ (narrow : last < 128).
    let same : c ≡ last = inside_one c [] bytes (length bytes - 1) refl (omega (arith, width, length-encode c, sizes)) narrow in
    ap (λ b. b == 0xD) same)
    (λ (wide : 128 ≤ last).
    let apart : c ≡ 0xD → last ≡ 0xD = λ e.
    let low : c < 128 = omega (arith, e) in
    ap (λ t. slice_index (t ++ []) (length (t ++ []) - 1)) (encode_ascii c low) ∙ e in
    let other : (last == 0xD) ≡ false = grind (arith, nat_tests) in
    ne_eqb c 0xD (λ e. absurd (omega (arith, wide, apart e))) ∙ sym other)
    (cases_lt last 128)
final_byte (c ∷ d ∷ cs) some =
    let first = encode_utf8 c in
    let bytes = encode_utf8_all (d ∷ cs) in
    let longer : 0 < length bytes = omega (arith, length-le-encodes (d ∷ cs)) in
    let at : length (first ++ bytes) - 1 ≡ length first + (length bytes - 1) = omega (arith, length-append first bytes) in
    final_byte (d ∷ cs) (omega arith)
    ∙ ap (λ b. b == 0xD) (sym (get_or-append-add first bytes (length bytes - 1) 0) ∙ ap (slice_index (first ++ bytes)) (sym at))

-- a text that isn't empty has a character
pub some_characters : (text : List ℕ) → IsUtf8 text → 0 < length text → 0 < length (chars text)
some_characters text is_text some = by_characters (chars text) (encodes-chars text is_text)
  where
    by_characters : (cs : List ℕ) → encode_utf8_all cs ≡ text → 0 < length cs
    by_characters [] same = absurd (omega (arith, some, ap length same))
    by_characters (c ∷ cs) same = omega arith

pub last_byte : (text : List ℕ) → IsUtf8 text → 0 < length text → ends_in_cr (chars text) ≡ (slice_index text (length text - 1) == 0xD)
last_byte text is_text some =
    final_byte (chars text) (some_characters text is_text some) ∙ ap (λ t. slice_index t (length t - 1) == 0xD) (encodes-chars text is_text)

-- where the text is cut again after a call that failed
pub cut_point : (front text : List ℕ) → IsUtf8 front → IsUtf8 text → BeginsWith front text → IsSplitPoint text (length front)
cut_point front text is_front is_text begins =
    let fits : length front ≤ length text = omega (arith, ap length begins.1, length-append front begins.0) in
    let boundary = IsCharBoundary-from_take text (length front) is_text fits (subst IsUtf8 (sym (front_again front text begins)) is_front) in
    (boundary.0, λ some within. boundary.1 within)

-- nothing is held
pub none_held : MayGoOn []
unfolding chars_behind
none_held = record { few = omega arith; tail = λ i some within. absurd (omega arith); none = refl }

-- what is held is no character yet
pub held_is_none : (text : List ℕ) (after_cr : Bool) (held : List ℕ) → chars_of held ≡ [] → text_with text after_cr (chars_of (held ++ [])) ≡ text
unfolding with_line_feeds
held_is_none text after_cr held none =
    ap (λ t. text_with text after_cr (chars_of t)) (append-nil held) ∙ ap (text_with text after_cr) none ∙ behind_nothing after_cr
  where
    behind_nothing : (after_cr : Bool) → text_with text after_cr [] ≡ text
    behind_nothing true = append-nil text
    behind_nothing false = append-nil text

-- what is cleaned in two parts
pub cleaned_parted : (front back : List ℕ) → continues (slice_index back 0) ≡ false
    → cleaned (front ++ back) ≡ text_with (cleaned front) (ends_in_cr (chars_of front)) (chars_of back)
unfolding cleaned with_line_feeds
cleaned_parted front back clean =
    ap (λ cs. filter is_allowed (with_line_feeds cs)) (parted front back (λ any. clean)) ∙ by_front (chars_of front)
  where
    by_front : (cs : List ℕ) → filter is_allowed (with_line_feeds (cs ++ chars_of back))
        ≡ text_with (filter is_allowed (with_line_feeds cs)) (ends_in_cr cs) (chars_of back)
    by_front [] = refl
    by_front (c ∷ cs) = tidied_on c cs (chars_of back)
