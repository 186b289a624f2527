-- Colours as a style writes them (CSS 2.1, section 4.3.6).
use Rattle.std.specs.Prelude.{ℕ, ◌/◌, ◌%◌, ◌==◌, ◌&&◌, ◌||◌, min, Bool, if◌then◌else◌, List, [], ◌∷◌, length, drop, slice_index, codes, Option, Some, None}
use Rattle.std.specs.Char.{digit_char}
use Rattle.std.specs.List.{list_all, flat_map, slice_split}
use Rattle.std.specs.Option.{option_and_then, option_or}
use Rattle.std.specs.Str.{bytes_eq, str_to_ascii_lowercase}
use Rattle.std.specs.Str.Parse.{digits_value}
use Rattle.pur_text.specs.Characters.{is_between}
use Rattle.pur_text.specs.Trimming.{trimmed}
use Rattle.pur_csstok.specs.Ends.{argument_of}
use Rattle.pur_csstok.specs.Numbers.{is_digit, are_digits}

-- a hexadecimal digit in lower case
abbrev pub is_hex_digit : ℕ → Bool
is_hex_digit c = is_digit c || is_between 0x61 0x66 c

-- a `#` with 3 or 6 hexadecimal digits behind it; each of 3 counts twice
abbrev pub is_hash : List ℕ → Bool
is_hash text =
    slice_index text 0 == 0x23 && (length text == 4 || length text == 7) && list_all is_hex_digit (drop 1 text)

abbrev pub twice : ℕ → List ℕ
twice c = c ∷ c ∷ []

abbrev pub six_digits : List ℕ → List ℕ
six_digits digits = if length digits == 3 then flat_map twice digits else digits

unfoldable pub hash_read : List ℕ → Option (List ℕ)
hash_read text = if is_hash text then Some (0x23 ∷ six_digits (drop 1 text)) else None

-- a name and its colour, and the 17 that there are
abbrev pub Row : Type 0
Row = List ℕ × List ℕ

abbrev pub rows : List Row
rows =
    (codes "maroon", codes "#800000") ∷ (codes "red", codes "#ff0000") ∷ (codes "orange", codes "#ffa500") ∷
    (codes "yellow", codes "#ffff00") ∷ (codes "olive", codes "#808000") ∷ (codes "purple", codes "#800080") ∷
    (codes "fuchsia", codes "#ff00ff") ∷ (codes "white", codes "#ffffff") ∷ (codes "lime", codes "#00ff00") ∷
    (codes "green", codes "#008000") ∷ (codes "navy", codes "#000080") ∷ (codes "blue", codes "#0000ff") ∷
    (codes "aqua", codes "#00ffff") ∷ (codes "teal", codes "#008080") ∷ (codes "black", codes "#000000") ∷
    (codes "silver", codes "#c0c0c0") ∷ (codes "gray", codes "#808080") ∷ []

-- the colour of the first of these rows that has the name
abbrev pub color_in : List Row → List ℕ → Option (List ℕ)
color_in [] name = None
color_in (row ∷ more) name = if bytes_eq name row.0 then Some row.1 else color_in more name

-- the colour with this name
unfoldable pub color_named : List ℕ → Option (List ℕ)
color_named name = color_in rows name

-- a part of `rgb`: a whole number, with white space round it; more than 255 is 255
abbrev pub is_part : List ℕ → Bool
is_part text = are_digits (trimmed text)

abbrev pub part_value : List ℕ → ℕ
part_value text = min (digits_value 10 (trimmed text)) 255

abbrev pub two_digits : ℕ → List ℕ
two_digits n = digit_char (n / 16) ∷ digit_char (n % 16) ∷ []

-- three such parts
unfoldable pub parts_read : List (List ℕ) → Option (List ℕ)
parts_read parts =
    if length parts == 3 && list_all is_part parts then Some (0x23 ∷ flat_map (λ part. two_digits (part_value part)) parts) else None

abbrev pub between_commas : List ℕ → List (List ℕ)
between_commas text = slice_split (λ c. c == 0x2C) text

-- `rgb(`, three parts with commas between them, and `)`
unfoldable pub rgb_read : List ℕ → Option (List ℕ)
rgb_read text = option_and_then (λ inside. parts_read (between_commas inside)) (argument_of (codes "rgb(") text)

-- the first of the readings that there is, of a text in lower case
abbrev pub lowered_read : List ℕ → Option (List ℕ)
lowered_read text = option_or (hash_read text) (option_or (color_named text) (rgb_read text))

-- the colour that a text writes, letters in either case; `transparent` stays that word where it is taken
unfoldable pub color_read : Bool → List ℕ → Option (List ℕ)
color_read transparent text =
    let lowered = str_to_ascii_lowercase text in
    if transparent && bytes_eq lowered (codes "transparent") then Some lowered else lowered_read lowered
