-- Numbers as a style writes them (CSS 2.1, section 4.3.1).
use Rattle.std.specs.Prelude.{ℕ, ◌-◌, ◌==◌, ◌&&◌, ◌||◌, not, nat_le, Bool, if◌then◌else◌, List, [], ◌∷◌, ◌++◌, length, take, drop, slice_index, Option, Some, None, option_map}
use Rattle.std.specs.List.{list_all, prefix_len, suffix_len}
use Rattle.pur_text.specs.Characters.{is_between}

abbrev pub is_digit : ℕ → Bool
is_digit c = is_between 0x30 0x39 c

abbrev pub is_zero : ℕ → Bool
is_zero c = c == 0x30

-- one or more digits
abbrev pub are_digits : List ℕ → Bool
are_digits text = not (length text == 0) && list_all is_digit text

-- a text without the sign at its front
abbrev pub behind_sign : List ℕ → List ℕ
behind_sign text = if slice_index text 0 == 0x2B || slice_index text 0 == 0x2D then drop 1 text else text

-- the digits at the front of a text, and what stands behind them
abbrev pub front_digits : List ℕ → List ℕ
front_digits text = take (prefix_len is_digit text) text

abbrev pub behind_digits : List ℕ → List ℕ
behind_digits text = drop (prefix_len is_digit text) text

-- what a numeral has behind its first digits: nothing, or a point and one or more digits
abbrev pub is_fraction : List ℕ → Bool
is_fraction text = slice_index text 0 == 0x2E && are_digits (drop 1 text)

-- a numeral without a sign: digits, or digits (also none), a point and digits
abbrev pub is_numeral : List ℕ → Bool
is_numeral text = if length (behind_digits text) == 0 then not (length text == 0) else is_fraction (behind_digits text)

-- the digits without the zeros at their front, and without those at their end
abbrev pub without_leading_zeros : List ℕ → List ℕ
without_leading_zeros digits = drop (prefix_len is_zero digits) digits

abbrev pub without_trailing_zeros : List ℕ → List ℕ
without_trailing_zeros digits = take (length digits - suffix_len is_zero digits) digits

-- a number: whether it is below zero, and its digits before and behind the point, without zeros at the outer ends
pub record Number : Type 0 where
  pub negative : Bool
  pub whole : List ℕ
  pub fraction : List ℕ

abbrev pub is_nought : List ℕ → List ℕ → Bool
is_nought whole fraction = length whole == 0 && length fraction == 0

-- the number of a numeral's digits with this sign: four digits behind the point are kept, and a number that is zero then
-- isn't below zero
abbrev pub number_with : Bool → List ℕ → List ℕ → Number
number_with minus whole fraction = record { negative = minus && not (is_nought whole fraction); whole = whole; fraction = fraction }

abbrev pub whole_digits : List ℕ → List ℕ
whole_digits text = without_leading_zeros (front_digits text)

abbrev pub fraction_digits : List ℕ → List ℕ
fraction_digits text = without_trailing_zeros (take 4 (drop 1 (behind_digits text)))

abbrev pub number_written : List ℕ → Number
number_written text =
    number_with (slice_index text 0 == 0x2D) (whole_digits (behind_sign text)) (fraction_digits (behind_sign text))

-- at most six digits stand before the point, and an unsigned use takes no number below zero
abbrev pub is_permitted : Bool → Number → Bool
is_permitted signed number = nat_le (length number.whole) 6 && (signed || not number.negative)

-- the number that a text writes, if it is a permitted one
unfoldable pub number_of : Bool → List ℕ → Option Number
number_of signed text =
    if is_numeral (behind_sign text) && is_permitted signed (number_written text) then Some (number_written text) else None

-- a number's one text: a minus, the digits, and a point only before digits
abbrev pub sign_text : Bool → List ℕ
sign_text negative = if negative then 0x2D ∷ [] else []

abbrev pub whole_text : List ℕ → List ℕ
whole_text digits = if length digits == 0 then 0x30 ∷ [] else digits

abbrev pub fraction_text : List ℕ → List ℕ
fraction_text digits = if length digits == 0 then [] else 0x2E ∷ digits

unfoldable pub number_text : Number → List ℕ
number_text number = sign_text number.negative ++ (whole_text number.whole ++ fraction_text number.fraction)

-- a number's text, read and written again
abbrev pub number_read : Bool → List ℕ → Option (List ℕ)
number_read signed text = option_map number_text (number_of signed text)
