-- Texts as lists of characters.
use Rattle.std.specs.Prelude.{ℕ, ◌==◌, List, count_by, String, string_bytes, length, encode_utf8_all}
use Rattle.std.specs.Str.{chars}
use Rattle.std.specs.declared.alloc.Global.{Global}

-- the characters of a text (Unicode, section 3.9: those that its bytes encode in UTF-8)
abbrev pub text_of : String Global → List ℕ
text_of text = chars (string_bytes text)

-- how many bytes the characters take in UTF-8 (Unicode, Table 3-6)
abbrev pub byte_count : List ℕ → ℕ
byte_count text = length (encode_utf8_all text)

-- how often a character, given as its number, stands in a text
abbrev pub times : ℕ → List ℕ → ℕ
times c text = count_by (λ d. d == c) text
