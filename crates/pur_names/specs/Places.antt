-- The place of a name in a table of some size: its length and three of its characters, each taken so many times. Each
-- table has a size and numbers of its own, by which no two of its names have one place.
use Rattle.std.specs.Prelude.{ℕ, List, ◌+◌, ◌*◌, ◌-◌, ◌/◌, ◌%◌, length, slice_get}
use Rattle.std.specs.Option.{option_map_or}

abbrev byte_at : List ℕ → ℕ → ℕ
byte_at name i = option_map_or (λ b. b) (slice_get name i) 0

abbrev pub place_by : ℕ → ℕ → ℕ → ℕ → ℕ → List ℕ → ℕ
place_by size whole first middle last name =
    (whole * (length name % 256) + first * byte_at name 0 + middle * byte_at name (length name / 2) + last * byte_at name (length name - 1)) % size
