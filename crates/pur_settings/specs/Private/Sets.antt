-- A set of names as a table of truth values, one for each name in the order of their ranks.
use Rattle.std.specs.Prelude.{ℕ, Bool, false, List, slice_index_or}
use Rattle.std.specs.List.{filter}

-- whether a table holds one
abbrev pub is_held : {A : Type 0} → (A → ℕ) → List Bool → A → Bool
is_held rank table one = slice_index_or table (rank one) false

-- the members that a table holds
unfoldable pub held : {A : Type 0} → (A → ℕ) → List A → List Bool → List A
held rank all table = filter (is_held rank table) all
