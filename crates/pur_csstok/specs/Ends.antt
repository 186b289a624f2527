-- Texts that begin and end with certain characters.
use Rattle.std.specs.Prelude.{ℕ, ◌-◌, ◌==◌, ◌&&◌, not, if◌then◌else◌, List, [], ◌∷◌, ◌++◌, length, take, slice_index, Option, Some, None}
use Rattle.std.specs.Option.{option_and_then}
use Rattle.std.specs.Char.{to_ascii_lowercase}

-- what stands behind this character in lower case, where the text begins with it in either case
abbrev pub behind : ℕ → List ℕ → Option (List ℕ)
behind first [] = None
behind first (c ∷ text) = if to_ascii_lowercase c == first then Some text else None

-- what stands before this character, where the text ends with it
abbrev pub before : ℕ → List ℕ → Option (List ℕ)
before last text =
    if not (length text == 0) && slice_index text (length text - 1) == last then Some (take (length text - 1) text) else None

-- what stands in quotes of this kind (CSS 2.1, section 4.3.7, strings without escapes)
abbrev pub between : ℕ → List ℕ → Option (List ℕ)
between quote text = option_and_then (before quote) (behind quote text)

-- what stands behind these characters, in lower case here and in either case there
abbrev pub behind_all : List ℕ → List ℕ → Option (List ℕ)
behind_all [] text = Some text
behind_all (first ∷ more) text = option_and_then (behind_all more) (behind first text)

-- what stands between this front and `)`
abbrev pub argument_of : List ℕ → List ℕ → Option (List ℕ)
argument_of front text = option_and_then (before 0x29) (behind_all front text)

-- a text in quotes of this kind
abbrev pub in_quotes : ℕ → List ℕ → List ℕ
in_quotes quote text = quote ∷ (text ++ quote ∷ [])
