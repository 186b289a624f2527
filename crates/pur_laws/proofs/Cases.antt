-- Texts whose ASCII characters are changed one by one, as letters that are lowered; and tests and readers that only texts in
-- ASCII pass, which tell of the characters of a text what they tell of its bytes.
use Rattle.std.proofs.Common.{◌≡◌, ℕ, suc, ◌<◌, ◌≤◌, Bool, true, false, List, [], ◌∷◌, ◌++◌, length, get_or, map, Some, None, refl, sym, ap, ◌∙◌, arith, IsUtf8, encode_utf8_all, ⊎_elim}
use Rattle.std.specs.Prelude.{Option, ◌==◌}
use Rattle.std.specs.Char.{encode_utf8, to_ascii_lowercase}
use Rattle.std.specs.List.{list_all}
use Rattle.std.specs.Str.{chars, str_to_ascii_lowercase}
use Rattle.std.proofs.lemmas.Bool.{cases_lt, and_parts, and_from}
use Rattle.std.proofs.lemmas.Bool.Decides.{nat_tests}
use Rattle.std.proofs.lemmas.List.{map-append}
use Rattle.std.proofs.lemmas.Str.{chars-nil, encodes-chars, encodes_same, encode_ascii, scalars-chars}
use Rattle.std.proofs.lemmas.Str.Ascii.{lowercase_ascii}
use lib.Utf8.{scalar, scalars}
use Rattle.pur_laws.proofs.Sequences.{are_high, high_bytes}
use Rattle.pur_laws.proofs.Tests.{not_empty}
use Rattle.pur_laws.proofs.Texts.{is_ascii, chars_ascii, same_chars}

-- ---- changes of ASCII alone

low_scalar : (c : ℕ) → c < 128 → scalar c ≡ true
low_scalar c low = grind (arith, nat_tests)

pub record ChangesAscii (f : ℕ → ℕ) : Type 0 where
  pub ascii : (c : ℕ) → c < 128 → f c < 128
  pub other : (c : ℕ) → 128 ≤ c → f c ≡ c

module _ (f : ℕ → ℕ) (changes : ChangesAscii f) where
  high_kept : (bs : List ℕ) → are_high bs → map f bs ≡ bs
  high_kept [] high = refl
  high_kept (b ∷ bs) high =
      ap (λ x. x ∷ map f bs) (changes.other b (high 0 (omega arith))) ∙ ap (λ t. b ∷ t) (high_kept bs (λ k l. high (suc k) (omega arith)))

  changed-encode : (cs : List ℕ) → map f (encode_utf8_all cs) ≡ encode_utf8_all (map f cs)
  changed-encode [] = refl
  changed-encode (c ∷ cs) =
      map-append f (encode_utf8 c) (encode_utf8_all cs) ∙ ap (λ t. map f (encode_utf8 c) ++ t) (changed-encode cs)
      ∙ ap (λ t. t ++ encode_utf8_all (map f cs)) (⊎_elim
      (λ (low : c < 128). ap (map f) (encode_ascii c low) ∙ sym (encode_ascii (f c) (changes.ascii c low)))
      (λ (high : 128 ≤ c). high_kept (encode_utf8 c) (high_bytes c high) ∙ ap encode_utf8 (sym (changes.other c high)))
      (cases_lt c 128))

  -- the characters of a text so changed are the changed ones
  pub changed-chars : (text changed : List ℕ) → IsUtf8 text → IsUtf8 changed → changed ≡ map f text → chars changed ≡ map f (chars text)
  changed-chars text changed is also e =
      encodes_same (chars changed) (map f (chars text))
      (encodes-chars changed also ∙ e ∙ ap (map f) (sym (encodes-chars text is)) ∙ changed-encode (chars text))

  -- and it is a text
  changed-scalars : (cs : List ℕ) → scalars cs ≡ true → scalars (map f cs) ≡ true
  changed-scalars [] all = refl
  changed-scalars (c ∷ cs) all =
      let both = and_parts (scalar c) (scalars cs) all in
      let one : scalar (f c) ≡ true = ⊎_elim
      (λ (low : c < 128). low_scalar (f c) (changes.ascii c low))
      (λ (high : 128 ≤ c). ap scalar (changes.other c high) ∙ both.0)
      (cases_lt c 128) in
      and_from _ _ one (changed-scalars cs both.1)

  pub changed-text : (text : List ℕ) → IsUtf8 text → IsUtf8 (map f text)
  changed-text text is =
      let cs = chars text in
      (map f cs, (changed-scalars cs (scalars-chars text is), sym (changed-encode cs) ∙ ap (map f) (encodes-chars text is)))

-- ---- lower case

high_lowered : (c : ℕ) → 128 ≤ c → to_ascii_lowercase c ≡ c
high_lowered c high = grind (arith, nat_tests)

pub lowered-chars : (text lowered : List ℕ) → IsUtf8 text → IsUtf8 lowered → lowered ≡ str_to_ascii_lowercase text → chars lowered ≡ str_to_ascii_lowercase (chars text)
lowered-chars text lowered is low e = changed-chars to_ascii_lowercase (record { ascii = lowercase_ascii; other = high_lowered }) text lowered is low e

-- what lowering leaves as it is
pub lowered-same : (test : ℕ → Bool) → ((c : ℕ) → test c ≡ true → to_ascii_lowercase c ≡ c) → (text : List ℕ) → list_all test text ≡ true → str_to_ascii_lowercase text ≡ text
lowered-same test same [] all = refl
lowered-same test same (c ∷ text) all =
    let both = and_parts (test c) (list_all test text) all in
    ap (λ b. b ∷ str_to_ascii_lowercase text) (same c both.0) ∙ ap (λ t. c ∷ t) (lowered-same test same text both.1)

low_before : (c : ℕ) → is_ascii (to_ascii_lowercase c) ≡ true → is_ascii c ≡ true
low_before c is = grind (arith, nat_tests)

pub lowered-ascii : (text : List ℕ) → list_all is_ascii (str_to_ascii_lowercase text) ≡ true → list_all is_ascii text ≡ true
lowered-ascii [] all = refl
lowered-ascii (c ∷ text) all =
    let both = and_parts (is_ascii (to_ascii_lowercase c)) (list_all is_ascii (str_to_ascii_lowercase text)) all in
    and_from _ _ (low_before c both.0) (lowered-ascii text both.1)

-- ---- tests and readers

-- a test that only texts in ASCII pass tells of the characters what it tells of the bytes
pub test-chars : (test : List ℕ → Bool) → ((text : List ℕ) → test text ≡ true → list_all is_ascii text ≡ true) → (text : List ℕ) → IsUtf8 text → test (chars text) ≡ test text
test-chars test ascii text is = go (test (chars text)) (test text) refl refl where
  go : (one two : Bool) → test (chars text) ≡ one → test text ≡ two → test (chars text) ≡ test text
  go false false one two = one ∙ sym two
  go true two one two_is = ap test (same_chars text is (ascii (chars text) one))
  go false true one two_is = ap test (chars_ascii text (ascii text two_is))

-- a reader that takes texts in ASCII alone
pub read-chars : {X : Type 0} (read : List ℕ → Option X) → ((text : List ℕ) (found : X) → read text ≡ Some found → list_all is_ascii text ≡ true)
    → (text : List ℕ) → IsUtf8 text → read text ≡ read (chars text)
read-chars {X} read ascii text is = go (read (chars text)) (read text) refl refl where
  go : (one two : Option X) → read (chars text) ≡ one → read text ≡ two → read text ≡ read (chars text)
  go None None one two = two ∙ sym one
  go (Some found) two one two_is = ap read (sym (same_chars text is (ascii (chars text) found one)))
  go None (Some found) one two_is = ap read (sym (chars_ascii text (ascii text found two_is)))

-- a text is empty where it has no characters
pub empty-chars : (text : List ℕ) → IsUtf8 text → (length text == 0) ≡ (length (chars text) == 0)
empty-chars [] is = ap (λ t. length t == 0) (sym chars-nil)
empty-chars (b ∷ bytes) is = go (chars (b ∷ bytes)) (encodes-chars (b ∷ bytes) is) where
  go : (cs : List ℕ) → encode_utf8_all cs ≡ b ∷ bytes → (length (b ∷ bytes) == 0) ≡ (length cs == 0)
  go [] e = absurd cc
  go (c ∷ cs) e = not_empty b bytes ∙ sym (not_empty c cs)
