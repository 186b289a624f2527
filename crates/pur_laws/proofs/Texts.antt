-- Texts as bytes and as characters: where they are ASCII, where they are cut, and where they are empty.
use Rattle.std.proofs.Common.{◌≡◌, ℕ, zero, suc, ◌<◌, ◌≤◌, Bool, true, List, [], ◌∷◌, ◌++◌, length, IsUtf8, encode_utf8, encode_utf8_all, refl, sym, ap, subst, ◌∙◌, arith, ⊎_elim, append-nil}
use lib.Utf8.{scalar}
use Rattle.std.specs.Prelude.{nat_lt}
use Rattle.std.specs.List.{list_all}
use Rattle.std.specs.Str.{chars, bytes_eq, IsAscii}
use Rattle.std.proofs.lemmas.Bool.{cases_lt, and_parts, and_from}
use Rattle.std.proofs.lemmas.Bool.Decides.{nat_tests}
use Rattle.std.proofs.lemmas.Slice.Eq.{bytes_eq-Decides}
use Rattle.std.proofs.lemmas.Str.{chars-nil, chars-append, chars_past_char, encodes-append, encodes-chars, encodes-IsAscii, encode_ascii, chars-IsAscii, IsUtf8-encode, IsUtf8-from_ascii}
use Rattle.pur_laws.proofs.Lists.{all-parts}
use Rattle.pur_laws.proofs.Truth.{true_together}

-- ---- texts of ASCII characters alone

abbrev pub is_ascii : ℕ → Bool
is_ascii c = nat_lt c 128

pub ascii_at : (text : List ℕ) → list_all is_ascii text ≡ true → IsAscii text
ascii_at [] all i = omega arith
ascii_at (c ∷ text) all zero = let first : is_ascii c ≡ true = (and_parts (is_ascii c) (list_all is_ascii text) all).0 in grind (arith, nat_tests)
ascii_at (c ∷ text) all (suc i) = ascii_at text (and_parts (is_ascii c) (list_all is_ascii text) all).1 i

pub utf8_ascii : (text : List ℕ) → list_all is_ascii text ≡ true → IsUtf8 text
utf8_ascii text all = IsUtf8-from_ascii text (ascii_at text all)

-- they are their own bytes
pub chars_ascii : (text : List ℕ) → list_all is_ascii text ≡ true → chars text ≡ text
chars_ascii text all = chars-IsAscii text (ascii_at text all)

pub encodes_ascii : (text : List ℕ) → list_all is_ascii text ≡ true → encode_utf8_all text ≡ text
encodes_ascii text all = encodes-IsAscii text (ascii_at text all)

pub same_chars : (text : List ℕ) → IsUtf8 text → list_all is_ascii (chars text) ≡ true → chars text ≡ text
same_chars text is all = sym (encodes_ascii (chars text) all) ∙ encodes-chars text is

-- also in front of others
pub chars_past : (front rest : List ℕ) → list_all is_ascii front ≡ true → chars (front ++ rest) ≡ front ++ chars rest
chars_past front rest all = chars-append front rest (utf8_ascii front all) ∙ ap (λ cs. cs ++ chars rest) (chars_ascii front all)

pub encodes_past : (front rest : List ℕ) → list_all is_ascii front ≡ true → encode_utf8_all (front ++ rest) ≡ front ++ encode_utf8_all rest
encodes_past front rest all = encodes-append front rest ∙ ap (λ bs. bs ++ encode_utf8_all rest) (encodes_ascii front all)

-- what a test says of the bytes of a text it says of its characters, where it lets all past ASCII pass
chars_pass : (p : ℕ → Bool) → ((c : ℕ) → 128 ≤ c → p c ≡ true) → (cs : List ℕ) → list_all p (encode_utf8_all cs) ≡ true → list_all p cs ≡ true
chars_pass p wide [] all = refl
chars_pass p wide (c ∷ cs) all =
    let parts = all-parts p (encode_utf8 c) (encode_utf8_all cs) all in
    let later : list_all p cs ≡ true = chars_pass p wide cs parts.1 in
    let first : p c ≡ true = ⊎_elim
    (λ (low : c < 128). (and_parts _ _ (subst (λ l. list_all p l ≡ true) (encode_ascii c low) parts.0)).0)
    (λ (high : 128 ≤ c). wide c high)
    (cases_lt c 128) in
    and_from _ _ first later

pub text_passes : (p : ℕ → Bool) → ((c : ℕ) → 128 ≤ c → p c ≡ true) → (text : List ℕ) → IsUtf8 text → list_all p text ≡ true → list_all p (chars text) ≡ true
text_passes p wide text is all = chars_pass p wide (chars text) (subst (λ t. list_all p t ≡ true) (sym (encodes-chars text is)) all)

-- ---- texts that are compared

-- a comparison of bytes is one of characters
pub bytes_eq-chars : (a b : List ℕ) → IsUtf8 a → IsUtf8 b → bytes_eq a b ≡ bytes_eq (chars a) (chars b)
bytes_eq-chars a b is_a is_b =
    true_together (bytes_eq a b) (bytes_eq (chars a) (chars b))
    (λ same. (bytes_eq-Decides (chars a) (chars b)).1 (ap chars ((bytes_eq-Decides a b).0 same)))
    (λ same. (bytes_eq-Decides a b).1
    (sym (encodes-chars a is_a) ∙ ap encode_utf8_all ((bytes_eq-Decides (chars a) (chars b)).0 same) ∙ encodes-chars b is_b))

-- against an ASCII one
pub bytes_eq-ascii : (text mark : List ℕ) → IsUtf8 text → list_all is_ascii mark ≡ true → bytes_eq (chars text) mark ≡ bytes_eq text mark
bytes_eq-ascii text mark is all =
    sym (bytes_eq-chars text mark is (utf8_ascii mark all) ∙ ap (bytes_eq (chars text)) (chars_ascii mark all))

-- ---- texts that are cut

pub chars_around : (before behind : List ℕ) (c : ℕ) → IsUtf8 before → IsUtf8 behind → c < 128 → chars (before ++ c ∷ behind) ≡ chars before ++ c ∷ chars behind
chars_around before behind c is_before is_behind low =
    let is_ascii : list_all is_ascii (c ∷ []) ≡ true = grind (arith, nat_tests) in
    chars-append before (c ∷ behind) is_before ∙ ap (λ cs. chars before ++ cs) (chars_past (c ∷ []) behind is_ascii)

-- one character more
pub chars_push : (text : List ℕ) (c : ℕ) → IsUtf8 text → scalar c ≡ true → chars (text ++ encode_utf8 c) ≡ chars text ++ c ∷ []
chars_push text c is_text is =
    let one : encode_utf8 c ≡ encode_utf8 c ++ [] = sym (append-nil (encode_utf8 c)) in
    chars-append text (encode_utf8 c) is_text
    ∙ ap (λ cs. chars text ++ cs) (chars_past_char (encode_utf8 c) [] c (IsUtf8-encode c is) one ∙ ap (λ cs. c ∷ cs) chars-nil)

-- ---- texts that are empty

pub no_chars : (text : List ℕ) → length text ≡ 0 → chars text ≡ []
no_chars [] none = chars-nil
no_chars (b ∷ text) none = absurd (omega (arith, none))

pub some_chars : (text : List ℕ) → IsUtf8 text → 0 < length text → 0 < length (chars text)
some_chars text is some = go (chars text) (encodes-chars text is)
  where
    go : (cs : List ℕ) → encode_utf8_all cs ≡ text → 0 < length cs
    go [] e = absurd (omega (arith, ap length e))
    go (c ∷ cs) e = omega arith
