-- How the attributes of a tag are read one by one.
use Rattle.std.proofs.Common.{◌≡◌, ◌≢◌, ℕ, suc, ◌<◌, ◌≤◌, true, false, List, [], ◌∷◌, ◌++◌, length, drop, map, refl, sym, ap, ◌∙◌, arith, ⊎_elim, encode_utf8, encode_utf8_all, IsUtf8}
use Rattle.std.specs.Prelude.{◌==◌, ◌&&◌, nat_lt}
use lib.Utf8.{scalar, scalars}
use Rattle.std.specs.Char.{to_ascii_lowercase}
use Rattle.std.specs.Str.{chars}
use Rattle.std.proofs.lemmas.Bool.{cases_lt, and_parts, and_from}
use Rattle.std.proofs.lemmas.Bool.Decides.{nat_tests}
use Rattle.std.proofs.lemmas.List.{map-append}
use Rattle.std.proofs.lemmas.Str.{chars-encodes, chars-nil, encodes-chars, encode_ascii}
use Rattle.std.proofs.lemmas.Str.Ascii.{lowercase_ascii}
use Rattle.pur_attrlist.specs.Attributes.{Attribute, with_new}
use Rattle.pur_lexer.specs.Places.{begins_with, is_character, run_to, rest_from}
use Rattle.pur_lexer.specs.Tags.{ends_space, ends_attribute_name, with_raw_value, lowered, raw_value, quoted_value, bare_value, attribute_behind, named_attribute, attribute_at}
use Rattle.pur_lexer.specs.Private.Readings.{with_all_new}
use Rattle.pur_laws.proofs.Texts.{chars_past}
use Rattle.pur_laws.proofs.Sequences.{are_high, high_bytes}
use Rattle.std.proofs.lemmas.Bool.{false_from_ne_true}

-- a text behind an ASCII character
pub chars_behind : (text behind : List ℕ) (c : ℕ) → c < 128 → text ≡ c ∷ behind → chars text ≡ c ∷ chars behind
chars_behind text behind c low e =
    let ascii : (nat_lt c 128 && true) ≡ true = grind (arith, nat_tests) in
    ap chars e ∙ chars_past (c ∷ []) behind ascii

-- where no text begins with the character, nor do the characters
pub not_behind : (text : List ℕ) (c : ℕ) → IsUtf8 text → c < 128 → ((rest : List ℕ) → text ≢ c ∷ rest) → begins_with (is_character c) (chars text) ≡ false
not_behind text c is low none = by (chars text) (encodes-chars text is)
  where
    by : (cs : List ℕ) → encode_utf8_all cs ≡ text → begins_with (is_character c) cs ≡ false
    by [] e = refl
    by (d ∷ cs) e = false_from_ne_true (d == c) (λ same.
        let one : d ≡ c = grind (arith, nat_tests) in
        none (encode_utf8_all cs)
        (sym e ∙ ap (λ (x : ℕ). encode_utf8 x ++ encode_utf8_all cs) one ∙ ap (λ (l : List ℕ). l ++ encode_utf8_all cs) (encode_ascii c low)))

-- letters are lowered in bytes as in characters
high_kept : (bs : List ℕ) → are_high bs → map to_ascii_lowercase bs ≡ bs
high_kept [] high = refl
high_kept (b ∷ bs) high =
    let here : 128 ≤ b = high 0 (omega arith) in
    let same : to_ascii_lowercase b ≡ b = grind (arith, nat_tests) in
    let later : map to_ascii_lowercase bs ≡ bs = high_kept bs (λ k l. high (suc k) (omega arith)) in
    λ i. same i ∷ later i

lowered-encode : (cs : List ℕ) → map to_ascii_lowercase (encode_utf8_all cs) ≡ encode_utf8_all (map to_ascii_lowercase cs)
lowered-encode [] = refl
lowered-encode (c ∷ cs) = map-append to_ascii_lowercase (encode_utf8 c) (encode_utf8_all cs) ∙ ⊎_elim
    (λ (low : c < 128).
    let lower : to_ascii_lowercase c < 128 = lowercase_ascii c low in
    ap (λ (l : List ℕ). map to_ascii_lowercase l ++ map to_ascii_lowercase (encode_utf8_all cs)) (encode_ascii c low)
    ∙ ap (λ (l : List ℕ). l ++ map to_ascii_lowercase (encode_utf8_all cs)) (sym (encode_ascii (to_ascii_lowercase c) lower))
    ∙ ap (λ (l : List ℕ). encode_utf8 (to_ascii_lowercase c) ++ l) (lowered-encode cs))
    (λ (high : 128 ≤ c).
    let same : to_ascii_lowercase c ≡ c = grind (arith, nat_tests) in
    ap (λ (l : List ℕ). l ++ map to_ascii_lowercase (encode_utf8_all cs)) (high_kept (encode_utf8 c) (high_bytes c high))
    ∙ ap (λ (x : ℕ). encode_utf8 x ++ map to_ascii_lowercase (encode_utf8_all cs)) (sym same)
    ∙ ap (λ (l : List ℕ). encode_utf8 (to_ascii_lowercase c) ++ l) (lowered-encode cs))
    (cases_lt c 128)

lowered-scalar : (c : ℕ) → scalar c ≡ true → scalar (to_ascii_lowercase c) ≡ true
lowered-scalar c is = ⊎_elim
    (λ (low : c < 128). low_scalar_at (to_ascii_lowercase c) (lowercase_ascii c low))
    (λ (high : 128 ≤ c). let same : to_ascii_lowercase c ≡ c = grind (arith, nat_tests) in ap scalar same ∙ is)
    (cases_lt c 128)
  where
    low_scalar_at : (d : ℕ) → d < 128 → scalar d ≡ true
    low_scalar_at d low = grind (arith, nat_tests)

lowered-scalars : (cs : List ℕ) → scalars cs ≡ true → scalars (map to_ascii_lowercase cs) ≡ true
lowered-scalars [] is = refl
lowered-scalars (c ∷ cs) is =
    let both = and_parts (scalar c) (scalars cs) is in
    and_from _ _ (lowered-scalar c both.0) (lowered-scalars cs both.1)

pub lowered-chars : (text : List ℕ) → IsUtf8 text → chars (map to_ascii_lowercase text) ≡ lowered (chars text)
lowered-chars text is =
    let cs = is.0 in
    let here : cs ≡ chars text = sym (chars-encodes cs is.1.0) ∙ ap chars is.1.1 in
    ap (λ (t : List ℕ). chars (map to_ascii_lowercase t)) (sym is.1.1) ∙ ap chars (lowered-encode cs)
    ∙ chars-encodes (map to_ascii_lowercase cs) (lowered-scalars cs is.1.0) ∙ ap lowered here

-- the value that begins a text
pub raw_value-double : (t : List ℕ) → raw_value (0x22 ∷ t) ≡ quoted_value 0x22 t
unfolding raw_value
raw_value-double t = refl

pub raw_value-single : (t : List ℕ) → raw_value (0x27 ∷ t) ≡ quoted_value 0x27 t
unfolding raw_value
raw_value-single t = refl

pub raw_value-bare : (t : List ℕ) → begins_with (is_character 0x22) t ≡ false → begins_with (is_character 0x27) t ≡ false → raw_value t ≡ bare_value t
unfolding raw_value
raw_value-bare t e f = rw (e, f) refl

-- the attribute of a name
pub attribute_behind-value : (name t : List ℕ) → attribute_behind name (0x3D ∷ t) ≡ with_raw_value name (raw_value (rest_from (begins_with ends_space) t))
unfolding attribute_behind
attribute_behind-value name t = refl

pub attribute_behind-none : (name t : List ℕ) → begins_with (is_character 0x3D) t ≡ false → attribute_behind name t ≡ record { pairs = (name, name) ∷ []; rest = t }
unfolding attribute_behind
attribute_behind-none name t e = rw e refl

-- the attribute that begins a text
some_name : (bytes cs t : List ℕ) → encode_utf8_all cs ≡ bytes → (length bytes ≡ 0 → ⊥) → named_attribute cs t ≡ attribute_behind (lowered cs) (rest_from (begins_with ends_space) t)
unfolding named_attribute
some_name bytes [] t e some = absurd (some (ap length (sym e)))
some_name bytes (c ∷ cs) t e some = refl

no_name : (bytes t : List ℕ) → length bytes ≡ 0 → named_attribute (chars bytes) t ≡ record { pairs = []; rest = drop 1 t }
unfolding named_attribute
no_name [] t e = ap (λ (cs : List ℕ). named_attribute cs t) chars-nil
no_name (b ∷ bytes) t e = absurd (omega arith)

pub attribute_at-named : (name t : List ℕ) → IsUtf8 name → (length name ≡ 0 → ⊥) → chars name ≡ run_to (begins_with ends_attribute_name) t
    → attribute_at t ≡ attribute_behind (lowered (chars name)) (rest_from (begins_with ends_space) (rest_from (begins_with ends_attribute_name) t))
unfolding attribute_at
attribute_at-named name t is some e =
    ap (λ (cs : List ℕ). named_attribute cs (rest_from (begins_with ends_attribute_name) t)) (sym e)
    ∙ some_name name (chars name) (rest_from (begins_with ends_attribute_name) t) (encodes-chars name is) some

pub attribute_at-none : (name t : List ℕ) → length name ≡ 0 → chars name ≡ run_to (begins_with ends_attribute_name) t
    → attribute_at t ≡ record { pairs = []; rest = drop 1 (rest_from (begins_with ends_attribute_name) t) }
unfolding attribute_at
attribute_at-none name t none e =
    ap (λ (cs : List ℕ). named_attribute cs (rest_from (begins_with ends_attribute_name) t)) (sym e) ∙ no_name name (rest_from (begins_with ends_attribute_name) t) none

-- one attribute more
pub one_new : (attrs : List Attribute) (name value : List ℕ) → with_all_new attrs ((name, value) ∷ []) ≡ with_new attrs name value
unfolding with_all_new
one_new attrs name value = refl

pub none_new : (attrs : List Attribute) → with_all_new attrs [] ≡ attrs
unfolding with_all_new
none_new attrs = refl

-- the same, with the name lowered
pub named_here : (bytes t name behind spaced : List ℕ) → IsUtf8 bytes → (length bytes ≡ 0 → ⊥) → chars bytes ≡ run_to (begins_with ends_attribute_name) t
    → behind ≡ rest_from (begins_with ends_attribute_name) t → spaced ≡ rest_from (begins_with ends_space) behind → name ≡ chars (map to_ascii_lowercase bytes)
    → attribute_at t ≡ attribute_behind name spaced
named_here bytes t name behind spaced is some run rest space lower =
    attribute_at-named bytes t is some run
    ∙ (λ i. attribute_behind (sym (lower ∙ lowered-chars bytes is) i) (sym (space ∙ ap (rest_from (begins_with ends_space)) rest) i))
