-- Places in a list of attributes, counted from 0.
use Rattle.std.specs.Prelude.{ℕ, zero, suc, ◌≡◌, ◌-◌, ◌<◌, nat_lt, if◌then◌else◌, List, [], ◌∷◌, length, slice_get, Option, None, Some}
use Rattle.std.specs.Option.{option_map}
use Rattle.std.specs.Str.{bytes_eq}
use Rattle.pur_attrlist.specs.Attributes.{Attribute, names_of}

-- the attributes with a value in the place of another
abbrev pub with_value_at : List Attribute → ℕ → List ℕ → List Attribute
with_value_at [] place value = []
with_value_at (pair ∷ pairs) zero value = (pair.0, value) ∷ pairs
with_value_at (pair ∷ pairs) (suc place) value = pair ∷ with_value_at pairs place value

-- the name stands at this place
pub record IsPlaceOf (pairs : List Attribute) (name : List ℕ) (place : ℕ) : Type 0 where
  pub within : place < length pairs
  pub named : slice_get (names_of pairs) place ≡ Some name

-- the first place of a text among texts
abbrev pub place_of : List (List ℕ) → List ℕ → Option ℕ
place_of [] text = None
place_of (first ∷ texts) text = if bytes_eq text first then Some 0 else option_map suc (place_of texts text)

-- where a place goes when the one at `gone` is taken out
abbrev pub moved_down : ℕ → ℕ → ℕ
moved_down gone place = if nat_lt gone place then place - 1 else place
