-- Lengths and percentages as a style writes them (CSS 2.1, sections 4.3.2 and 4.3.3).
use Rattle.std.specs.Prelude.{ℕ, ◌==◌, ◌&&◌, ◌||◌, Bool, if◌then◌else◌, List, [], ◌∷◌, ◌++◌, length, take, drop, codes, Option, Some, None}
use Rattle.std.specs.List.{prefix_len}
use Rattle.std.specs.Option.{option_map_or}
use Rattle.std.specs.Str.{bytes_eq, str_to_ascii_lowercase}
use Rattle.pur_csstok.specs.Names.{is_one_of}
use Rattle.pur_csstok.specs.Numbers.{Number, is_digit, is_nought, number_of, number_text}

-- what a number is made of
abbrev pub is_number_character : ℕ → Bool
is_number_character c = is_digit c || c == 0x2B || c == 0x2D || c == 0x2E

-- the units, and the sign of a percentage where it is taken
abbrev pub units : List (List ℕ)
units =
    codes "em" ∷ codes "ex" ∷ codes "px" ∷ codes "in" ∷ codes "cm" ∷ codes "mm" ∷ codes "pt" ∷ codes "pc" ∷ []

abbrev pub is_unit : Bool → List ℕ → Bool
is_unit percent unit = is_one_of units unit || (percent && bytes_eq unit (codes "%"))

-- a number and a unit as a length: zero stands alone, and only zero may come without a unit
unfoldable pub length_with : Bool → Number → List ℕ → Option (List ℕ)
length_with percent number unit =
    if is_nought number.whole number.fraction
    then (if length unit == 0 || is_unit percent unit then Some (codes "0") else None)
    else (if is_unit percent unit then Some (number_text number ++ unit) else None)

-- how many characters of a number stand at the front
abbrev pub number_len : List ℕ → ℕ
number_len text = prefix_len is_number_character text

-- the length that a text in lower case writes: a number, and then a unit
unfoldable pub length_lowered : Bool → Bool → List ℕ → Option (List ℕ)
length_lowered signed percent text =
    option_map_or (λ number. length_with percent number (drop (number_len text) text))
    (number_of signed (take (number_len text) text)) None

-- the length that a text writes, with its unit in letters of either case
abbrev pub length_read : Bool → Bool → List ℕ → Option (List ℕ)
length_read signed percent text = length_lowered signed percent (str_to_ascii_lowercase text)
