-- Sets of names of one sort, a finite type whose members have ranks: lists that have each member once, in the order of the
-- list of all.
use Rattle.std.specs.Prelude.{ℕ, Bool, List, nat_eq}
use Rattle.std.specs.List.{filter, list_any}

-- whether two are the same one: they have one rank
abbrev pub same : {A : Type 0} → (A → ℕ) → A → A → Bool
same rank a b = nat_eq (rank a) (rank b)

-- whether a list has one
abbrev pub is_in : {A : Type 0} → (A → ℕ) → List A → A → Bool
is_in rank list one = list_any (same rank one) list

-- the members of a list, each once, in the order of the list of all
unfoldable pub each_once : {A : Type 0} → (A → ℕ) → List A → List A → List A
each_once rank all list = filter (is_in rank list) all
