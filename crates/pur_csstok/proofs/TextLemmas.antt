-- Texts as bytes and as characters.
use Rattle.std.proofs.Common.{◌≡◌, ℕ, ◌+◌, ◌-◌, ◌<◌, true, false, List, [], ◌∷◌, ◌++◌, length, take, drop, get_or, map, String, string_bytes, Some, None, subst, refl, sym, ap, ◌∙◌, arith, IsUtf8, encode_utf8_all, append-nil, ⊎_elim}
use Rattle.std.specs.Prelude.{Option, option_map, ◌==◌, ◌&&◌, not}
use Rattle.std.specs.declared.alloc.Global.{Global}
use Rattle.std.specs.List.{list_all, join_by, join_with_byte}
use Rattle.std.specs.Char.{IsScalar, encode_utf8, len_utf8}
use Rattle.std.specs.Str.{chars, NonePass}
use Rattle.std.specs.Str.Pattern.{FindsChar, FindsCharSuffix, SplitsAroundMatch, StripsSuffix}
use Rattle.std.proofs.lemmas.Bool.{cases_Bool, cond-true, cond-false, and_parts, and_from, eqb-true}
use Rattle.std.proofs.lemmas.Bool.Decides.{nat_tests}
use Rattle.std.proofs.lemmas.List.{take_at, get_or_at, drop_all, take_more, take_all, take-append-drop, length-append}
use Rattle.std.proofs.lemmas.Str.{chars-nil, chars-append, chars_past_char, chars_from_encodes, encodes-chars, encodes-append, encode_ascii, IsUtf8-encode, IsUtf8-take, IsUtf8-string_bytes}
use Rattle.pur_laws.proofs.Cases.{read-chars}
use Rattle.pur_laws.proofs.Texts.{is_ascii, chars_ascii}
use Rattle.pur_csstok.specs.Ends.{before}
use Rattle.pur_text.specs.Texts.{text_of}
use Rattle.pur_laws.proofs.Tests.{same_number}

-- ---- texts put together

pub chars-char : (c : ℕ) → IsScalar c → chars (encode_utf8 c) ≡ c ∷ []
chars-char c is = chars_past_char (encode_utf8 c) [] c (IsUtf8-encode c is) (sym (append-nil (encode_utf8 c))) ∙ ap (λ t. c ∷ t) chars-nil

pub chars-first : (c : ℕ) (behind : List ℕ) → IsScalar c → chars (encode_utf8 c ++ behind) ≡ c ∷ chars behind
chars-first c behind is = chars-append (encode_utf8 c) behind (IsUtf8-encode c is) ∙ ap (λ t. t ++ chars behind) (chars-char c is)

low_scalar : (c : ℕ) → c < 128 → IsScalar c
low_scalar c low = grind (arith, nat_tests)

pub chars-low : (c : ℕ) (behind : List ℕ) → c < 128 → chars (c ∷ behind) ≡ c ∷ chars behind
chars-low c behind low = ap (λ t. chars (t ++ behind)) (sym (encode_ascii c low)) ∙ chars-first c behind (low_scalar c low)

-- texts joined with a character between each two
pub chars-joined : (c : ℕ) → c < 128 → (texts : List (String Global)) → chars (join_by string_bytes (c ∷ []) texts) ≡ join_with_byte c (map text_of texts)
chars-joined c low [] = chars-nil
chars-joined c low (text ∷ []) = ap chars (append-nil (string_bytes text))
chars-joined c low (text ∷ next ∷ texts) =
    let more = join_by string_bytes (c ∷ []) (next ∷ texts) in
    chars-append (string_bytes text) (c ∷ more) (IsUtf8-string_bytes text)
    ∙ ap (λ t. text_of text ++ t) (chars-low c more low)
    ∙ ap (λ t. text_of text ++ c ∷ t) (chars-joined c low (next ∷ texts))

-- a text between two such characters
pub chars-between : (c : ℕ) → c < 128 → (text : List ℕ) → IsUtf8 text → chars (c ∷ (text ++ c ∷ [])) ≡ c ∷ (chars text ++ c ∷ [])
chars-between c low text is =
    chars-low c (text ++ c ∷ []) low ∙ ap (λ t. c ∷ t) (chars-append text (c ∷ []) is)
    ∙ ap (λ t. c ∷ (chars text ++ t)) (chars-low c [] low ∙ ap (λ t. c ∷ t) chars-nil)

-- ---- texts taken apart

none_all : (c : ℕ) (cs : List ℕ) → NonePass (λ d. d == c) cs → list_all (λ d. not (d == c)) cs ≡ true
none_all c [] none = refl
none_all c (d ∷ cs) none = and_from _ _ (ap not none.0) (none_all c cs none.1)

-- what stands before the first such character, and what stands behind it
pub split_cut : (c : ℕ) (text front behind : List ℕ) → IsScalar c → IsUtf8 front → SplitsAroundMatch (FindsChar c) text front behind
    → chars text ≡ chars front ++ c ∷ chars behind
split_cut c text front behind scalar is split =
    let i = split.0 in
    let at = split.2.1 in
    let whole : text ≡ front ++ (encode_utf8 c ++ behind) =
    sym (take-append-drop i text) ∙ ap (λ t. take i text ++ t) (at.split ∙ ap (λ t. encode_utf8 c ++ t) (sym split.4)) ∙ ap (λ t. t ++ (encode_utf8 c ++ behind)) (sym split.3) in
    ap chars whole ∙ chars-append front (encode_utf8 c ++ behind) is ∙ ap (λ t. chars front ++ t) (chars-first c behind scalar)

pub split_first : (c : ℕ) (text front behind : List ℕ) → IsUtf8 front → SplitsAroundMatch (FindsChar c) text front behind
    → list_all (λ d. not (d == c)) (chars front) ≡ true
split_first c text front behind is split =
    let none = split.2.0 in
    let same : none.0 ≡ chars front = chars_from_encodes none.0 front is (none.1 ∙ sym split.3) in
    subst (λ cs. list_all (λ d. not (d == c)) cs ≡ true) same (none_all c none.0 none.2)

pub split_none : (c : ℕ) (text : List ℕ) → IsUtf8 text → FindsChar c text None → list_all (λ d. not (d == c)) (chars text) ≡ true
split_none c text is none =
    subst (λ cs. list_all (λ d. not (d == c)) cs ≡ true) (chars_from_encodes none.0 text is none.1) (none_all c none.0 none.2)

-- what stands before the last character
pub before-last : (c : ℕ) (text : List ℕ) → before c (text ++ c ∷ []) ≡ Some text
before-last c text =
    let whole = text ++ c ∷ [] in
    let n : length text ≡ length whole - 1 = omega (arith, length-append text (c ∷ [])) in
    let some : not (length whole == 0) ≡ true = grind (arith, nat_tests, length-append text (c ∷ [])) in
    let last : (get_or whole (length whole - 1) 0 == c) ≡ true = ap (λ b. b == c) (get_or_at text c [] 0 (length whole - 1) n) ∙ same_number c in
    cond-true _ _ _ (and_from _ _ some last) ∙ ap (λ t. Some t) (take_at text (c ∷ []) (length whole - 1) n)

last_split : (c : ℕ) (text : List ℕ) → (not (length text == 0) && get_or text (length text - 1) 0 == c) ≡ true → text ≡ take (length text - 1) text ++ c ∷ []
last_split c text is =
    let both = and_parts (not (length text == 0)) (get_or text (length text - 1) 0 == c) is in
    let some : 0 < length text = grind (arith, nat_tests) in
    let n = length text - 1 in
    let up : n + 1 ≡ length text = omega arith in
    sym (take_all (n + 1) text (omega arith)) ∙ take_more text n 0 (omega arith) ∙ ap (λ d. take n text ++ d ∷ []) (eqb-true _ _ both.1)

pub before_none : (c : ℕ) (text : List ℕ) → IsUtf8 text → FindsCharSuffix c text None → before c (chars text) ≡ None
before_none c text is none =
    let cs = chars text in
    let test = not (length cs == 0) && get_or cs (length cs - 1) 0 == c in
    ⊎_elim
    (λ (hit : test ≡ true).
    let front = take (length cs - 1) cs in
    let whole : text ≡ encode_utf8_all front ++ encode_utf8 c =
    sym (encodes-chars text is) ∙ ap encode_utf8_all (last_split c cs hit) ∙ encodes-append front (c ∷ [])
    ∙ ap (λ t. encode_utf8_all front ++ t) (append-nil (encode_utf8 c)) in
    absurd (none (encode_utf8_all front) whole))
    (λ (miss : test ≡ false). cond-false _ _ _ miss)
    (cases_Bool test)

pub before_some : (c : ℕ) (text rest : List ℕ) → IsScalar c → IsUtf8 text → StripsSuffix (FindsCharSuffix c) text rest → before c (chars text) ≡ Some (chars rest)
before_some c text rest scalar utf8 strips =
    let n = length text - strips.0 in
    let at = strips.1.1 in
    let same : n ≡ length text - len_utf8 c = ap (λ k. length text - k) strips.1.0 in
    let is : IsUtf8 rest = subst IsUtf8 (sym (strips.2 ∙ ap (λ k. take k text) same)) (IsUtf8-take text (length text - len_utf8 c) utf8 strips.1.2) in
    let end : drop n text ≡ encode_utf8 c =
    at.split ∙ ap (λ t. encode_utf8 c ++ t) (drop_all (length text) text (omega arith)) ∙ append-nil (encode_utf8 c) in
    let whole : text ≡ rest ++ encode_utf8 c =
    sym (take-append-drop n text) ∙ ap (λ t. take n text ++ t) end ∙ ap (λ t. t ++ encode_utf8 c) (sym strips.2) in
    ap (before c) (ap chars whole ∙ chars-append rest (encode_utf8 c) is ∙ ap (λ t. chars rest ++ t) (chars-char c scalar)) ∙ before-last c (chars rest)

-- ---- texts in ASCII, which are the same as bytes and as characters

-- a reader that takes and gives texts in ASCII alone
pub record ReadsAscii (read : List ℕ → Option (List ℕ)) : Type 0 where
  pub input : (text output : List ℕ) → read text ≡ Some output → list_all is_ascii text ≡ true
  pub output : (text output : List ℕ) → read text ≡ Some output → list_all is_ascii output ≡ true

pub as-characters : (read : List ℕ → Option (List ℕ)) → ReadsAscii read → (text : List ℕ) → IsUtf8 text → (output : Option (String Global))
    → option_map string_bytes output ≡ read text → option_map text_of output ≡ read (chars text)
as-characters read ascii text is None e = e ∙ read-chars read ascii.input text is
as-characters read ascii text is (Some output) e =
    ap (λ t. Some t) (chars_ascii (string_bytes output) (ascii.output text (string_bytes output) (sym e))) ∙ e ∙ read-chars read ascii.input text is
