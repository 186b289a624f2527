-- Character references (XML 1.0, section 4.1), and the text that a text with references stands for.
use Rattle.std.specs.Prelude.{ℕ, zero, suc, ◌+◌, ◌==◌, ◌&&◌, ◌||◌, not, nat_lt, Bool, if◌then◌else◌, List, [], ◌∷◌, ◌++◌, length, drop, filter, slice_index, Option, Some, None, option_map}
use Rattle.std.specs.Char.{digit_value}
use Rattle.std.specs.List.{list_all}
use Rattle.std.specs.Option.{option_map_or}
use Rattle.std.specs.Str.Parse.{digits_value}
use Rattle.pur_text.specs.Characters.{is_allowed}
use Rattle.pur_entities.specs.Entities.{named_character}

-- a digit in this radix, with letters in either case
abbrev pub is_digit : ℕ → ℕ → Bool
is_digit radix c = nat_lt (digit_value c) radix

-- the number that one or more digits write, and none for any other text
abbrev pub numeral : ℕ → List ℕ → Option ℕ
numeral radix text =
    if list_all (is_digit radix) text && not (length text == 0) then Some (digits_value radix text) else None

-- the number that stands behind a `#`: hexadecimal digits behind `x` or `X`, or decimal digits
abbrev pub is_hexadecimal : List ℕ → Bool
is_hexadecimal text = slice_index text 0 == 0x78 || slice_index text 0 == 0x58

abbrev pub number_written : List ℕ → Option ℕ
number_written text = if is_hexadecimal text then numeral 16 (drop 1 text) else numeral 10 text

-- the number of the character that a reference means which has this text between its `&` and its `;`: the number behind a
-- `#`, or that of the character with this name; none where there is no such number or name
unfoldable pub number_meant : List ℕ → Option ℕ
number_meant body = if slice_index body 0 == 0x23 then number_written (drop 1 body) else named_character body

-- what stands before the first `;`, if there is one
unfoldable pub before_semicolon : List ℕ → Option (List ℕ)
before_semicolon [] = None
before_semicolon (c ∷ text) =
    if c == 0x3B then Some [] else option_map (λ before. c ∷ before) (before_semicolon text)

-- a piece of a text: what it gives, and how many characters it has behind its first
pub record Piece : Type 0 where
  pub gives : List ℕ
  pub behind : ℕ

-- one character gives itself
abbrev pub character_piece : ℕ → Piece
character_piece c = record { gives = c ∷ []; behind = 0 }

-- a reference gives the character with its number, or nothing where that isn't allowed; behind its `&` are the body and
-- a `;`
abbrev pub reference_piece : List ℕ → ℕ → Piece
reference_piece body number = record { gives = filter is_allowed (number ∷ []); behind = length body + 1 }

-- the piece that an `&` begins which has this before the next `;`
abbrev pub piece_with : List ℕ → Piece
piece_with body = option_map_or (reference_piece body) (number_meant body) (character_piece 0x26)

-- the piece that an `&` begins before this text
abbrev pub ampersand_piece : List ℕ → Piece
ampersand_piece text = option_map_or piece_with (before_semicolon text) (character_piece 0x26)

-- the piece that a character begins before this text: a reference where one begins, and else the character
abbrev pub first_piece : ℕ → List ℕ → Piece
first_piece c text = if c == 0x26 then ampersand_piece text else character_piece c

-- what the pieces of a text give that begin behind its first n characters
unfoldable pub decoded_behind : ℕ → List ℕ → List ℕ
decoded_behind n [] = []
decoded_behind (suc n) (c ∷ text) = decoded_behind n text
decoded_behind zero (c ∷ text) =
    let piece = first_piece c text in
    piece.gives ++ decoded_behind piece.behind text

-- what a text gives where its references are read
unfoldable pub decoded : List ℕ → List ℕ
decoded text = decoded_behind 0 text
