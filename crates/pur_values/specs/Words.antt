-- Letters and digits of ASCII, lists of words, and a text that is kept only where it has a form.
use Rattle.std.specs.Prelude.{ℕ, ◌||◌, Bool, List, Option, Some, None, if◌then◌else◌}
use Rattle.std.specs.List.{list_any}
use Rattle.std.specs.Str.{bytes_eq}
use Rattle.pur_text.specs.Characters.{is_between}

-- a decimal digit
abbrev pub is_digit : ℕ → Bool
is_digit c = is_between 0x30 0x39 c

-- a letter of ASCII in either case
abbrev pub is_letter : ℕ → Bool
is_letter c = is_between 0x41 0x5A c || is_between 0x61 0x7A c

-- either of them
abbrev pub is_letter_or_digit : ℕ → Bool
is_letter_or_digit c = is_letter c || is_digit c

-- whether the word is one of these
abbrev pub is_among : List (List ℕ) → List ℕ → Bool
is_among words word = list_any (λ other. bytes_eq word other) words

-- the text where it has a form, and none where it hasn't
abbrev pub kept_where : Bool → List ℕ → Option (List ℕ)
kept_where has text = if has then Some text else None
