-- Texts are the same where their characters are, and where their bytes are.
use Rattle.std.proofs.Common.{◌∙◌, ◌++◌, ◌≡◌, ℕ, ◌+◌, true, List, String, string_bytes, refl, sym, ap, arith}
use Rattle.std.proofs.lemmas.Grind.{common_steps}
use Rattle.std.specs.Prelude.{length}
use Rattle.std.specs.Str.{chars, bytes_eq, IsUtf8}
use Rattle.std.specs.declared.alloc.Global.{Global}
use Rattle.std.proofs.lemmas.Str.{IsUtf8-string_bytes, chars-append, encodes-chars}
use Rattle.std.proofs.lemmas.Slice.Eq.{bytes_eq-Decides}
use Rattle.pur_laws.proofs.Texts.{bytes_eq-chars}
use Rattle.pur_laws.proofs.Truth.{true_together}
use Rattle.pur_attrlist.specs.Texts.{text_of, byte_count, times}
use Rattle.pur_attrlist.specs.Attributes.{is_same_text}

pub same_text : (a b : List ℕ) → is_same_text a b ≡ true → a ≡ b
same_text a b e = (bytes_eq-Decides a b).0 e

pub is_same_text-refl : (a : List ℕ) → is_same_text a a ≡ true
is_same_text-refl a = (bytes_eq-Decides a a).1 refl

pub is_same_text-sym : (a b : List ℕ) → is_same_text a b ≡ is_same_text b a
is_same_text-sym a b =
    true_together (is_same_text a b) (is_same_text b a)
    (λ e. (bytes_eq-Decides b a).1 (sym (same_text a b e)))
    (λ e. (bytes_eq-Decides a b).1 (sym (same_text b a e)))

-- a name that is looked for, against a stored one
pub bytes_eq-stored : (a : List ℕ) → IsUtf8 a → (s : String Global) → bytes_eq a (string_bytes s) ≡ is_same_text (chars a) (text_of s)
bytes_eq-stored a ua s = bytes_eq-chars a (string_bytes s) ua (IsUtf8-string_bytes s)

-- the characters of bytes take as many bytes
pub byte_count-chars : (bytes : List ℕ) → IsUtf8 bytes → byte_count (chars bytes) ≡ length bytes
byte_count-chars bytes valid = ap length (encodes-chars bytes valid)

-- a text with bytes behind it
pub pushed : (s new : String Global) (bytes : List ℕ) → string_bytes new ≡ string_bytes s ++ bytes → text_of new ≡ text_of s ++ chars bytes
pushed s new bytes e = ap chars e ∙ chars-append (string_bytes s) bytes (IsUtf8-string_bytes s)

pub times-append : (c : ℕ) (s t : List ℕ) → times c (s ++ t) ≡ times c s + times c t
times-append c s t = grind (arith, common_steps)
