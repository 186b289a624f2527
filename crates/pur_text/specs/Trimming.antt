-- White space at the ends of a text.
use Rattle.std.specs.Prelude.{ℕ, ◌-◌, List, take, drop, length}
use Rattle.std.specs.List.{prefix_len, suffix_len}
use Rattle.pur_text.specs.Characters.{is_space}

-- a text without the white space at its front
abbrev pub without_leading_space : List ℕ → List ℕ
without_leading_space text = drop (prefix_len is_space text) text

-- a text without the white space at its end
abbrev pub without_trailing_space : List ℕ → List ℕ
without_trailing_space text = take (length text - suffix_len is_space text) text

-- a text without the white space at both ends
unfoldable pub trimmed : List ℕ → List ℕ
trimmed text = without_trailing_space (without_leading_space text)
