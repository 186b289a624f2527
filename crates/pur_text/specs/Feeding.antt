-- A text that is cleaned while its bytes come, piece by piece.
use Rattle.std.specs.Prelude.{ℕ, ◌==◌, Bool, false, ◌&&◌, if◌then◌else◌, List, [], ◌∷◌, ◌++◌, drop, filter, slice_index}
use Rattle.pur_text.specs.Characters.{is_allowed}
use Rattle.pur_text.specs.Cleaning.{chars_of, with_line_feeds}

-- what a cleaner keeps of the bytes that came: their text, whether their last character is a CR, and the last bytes where
-- these may begin a character
pub record Fed : Type 0 where
  pub text : List ℕ
  pub after_cr : Bool
  pub held : List ℕ

-- the last character is a CR
abbrev pub ends_in_cr : List ℕ → Bool
ends_in_cr [] = false
ends_in_cr (c ∷ []) = c == 0xD
ends_in_cr (c ∷ d ∷ more) = ends_in_cr (d ∷ more)

-- the characters that stand behind a CR or not, with line feeds for line ends: an LF behind a CR belongs to that
abbrev pub line_feeds_behind : Bool → List ℕ → List ℕ
line_feeds_behind after_cr cs = with_line_feeds (if after_cr && slice_index cs 0 == 0xA then drop 1 cs else cs)

-- the text with that of further characters
abbrev pub text_with : List ℕ → Bool → List ℕ → List ℕ
text_with text after_cr cs = text ++ filter is_allowed (line_feeds_behind after_cr cs)

-- the text of the bytes that came and of these behind them
abbrev pub cleaned_with : Fed → List ℕ → List ℕ
cleaned_with fed bytes = text_with fed.text fed.after_cr (chars_of (fed.held ++ bytes))
