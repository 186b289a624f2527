-- Texts of the program as lists of characters.
use Rattle.std.specs.Prelude.{ℕ, List, String, string_bytes}
use Rattle.std.specs.Str.{chars}
use Rattle.std.specs.declared.alloc.Global.{Global}

-- the characters of a text (Unicode, section 3.9: those that its bytes encode in UTF-8)
abbrev pub text_of : String Global → List ℕ
text_of text = chars (string_bytes text)
