-- The texts that optional strings and lists of strings hold; none holds no characters, and no list holds no texts.
use Rattle.std.specs.Prelude.{ℕ, List, [], map, Option, Some, None, String, Vec, string_bytes}
use Rattle.std.specs.declared.alloc.Global.{Global}

abbrev pub text_held : Option (String Global) → List ℕ
text_held None = []
text_held (Some text) = string_bytes text

abbrev pub texts_held : Option (Vec (String Global) Global) → List (List ℕ)
texts_held None = []
texts_held (Some texts) = map string_bytes texts.items
