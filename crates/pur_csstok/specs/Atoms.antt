-- Values of one word each: what numbers, lengths, colours and keywords are in their one form.
use Rattle.std.specs.Prelude.{ℕ, ◌==◌, ◌&&◌, ◌||◌, not, Bool, List, length, drop, slice_index}
use Rattle.std.specs.List.{list_all}
use Rattle.pur_text.specs.Characters.{is_between}
use Rattle.pur_csstok.specs.Colors.{is_hex_digit}
use Rattle.pur_csstok.specs.Numbers.{is_digit}

-- a letter in lower case, a digit, `#`, `%`, `-` or `.`
abbrev pub is_atom_character : ℕ → Bool
is_atom_character c = is_between 0x61 0x7A c || is_digit c || c == 0x23 || c == 0x25 || c == 0x2D || c == 0x2E

-- one or more of these
abbrev pub is_atom : List ℕ → Bool
is_atom text = not (length text == 0) && list_all is_atom_character text

-- `#` and six hexadecimal digits in lower case
abbrev pub is_color : List ℕ → Bool
is_color text = slice_index text 0 == 0x23 && length text == 7 && list_all is_hex_digit (drop 1 text)
