-- Colours.
use Rattle.std.specs.Prelude.{ℕ, ◌==◌, ◌&&◌, ◌||◌, Bool, false, List, ◌∷◌, length, Option, if◌then◌else◌}
use Rattle.std.specs.List.{list_all}
use Rattle.pur_text.specs.Characters.{is_between}
use Rattle.pur_csstok.specs.Colors.{color_read}
use Rattle.pur_values.specs.Words.{is_digit}

-- a hexadecimal digit in either case
abbrev pub is_hex_digit : ℕ → Bool
is_hex_digit c = is_digit c || is_between 0x41 0x46 c || is_between 0x61 0x66 c

-- three or six hexadecimal digits
abbrev pub is_bare : List ℕ → Bool
is_bare text = (length text == 3 || length text == 6) && list_all is_hex_digit text

-- the colour of an attribute (HTML 4.01, section 6.5): one of a style, whose `#` may be missing
abbrev pub color_of : List ℕ → Option (List ℕ)
color_of text = if is_bare text then color_read false (0x23 ∷ text) else color_read false text
