-- What a cleaner keeps, in private contracts.
use Rattle.std.specs.Prelude.{ℕ, ◌==◌, ◌≡◌, ◌≤◌, ◌<◌, Bool, true, false, List, [], ◌∷◌, ◌++◌, length, slice_index, string_bytes}
use Rattle.std.specs.Str.{chars}
use Rattle.bstr.specs.Utf8.{continues}
use Rattle.pur_text.specs.Cleaning.{chars_of}
use Rattle.pur_text.specs.Feeding.{text_with}
use Rattle.pur_text.specs.declared.feeding.Written.{Written}

-- what is written, with further characters
abbrev pub written_with : Written → List ℕ → List ℕ
written_with written cs = text_with (chars (string_bytes written.text)) written.after_cr cs

-- a text begins with another
abbrev pub BeginsWith : List ℕ → List ℕ → Type 0
BeginsWith front text = (more : List ℕ) × (text ≡ front ++ more)

-- all bytes behind the first only continue a character
abbrev pub IsTail : List ℕ → Type 0
IsTail bytes = (i : ℕ) → 0 < i → i < length bytes → continues (slice_index bytes i) ≡ true

-- bytes that may begin a character, and have none
pub record MayGoOn (bytes : List ℕ) : Type 0 where
  pub few : length bytes ≤ 3
  pub tail : IsTail bytes
  pub none : chars_of bytes ≡ []
