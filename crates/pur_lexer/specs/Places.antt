-- Where a text is cut.
use Rattle.std.specs.Prelude.{ℕ, ◌==◌, Bool, false, if◌then◌else◌, List, [], ◌∷◌, nat_eq}
use Rattle.std.specs.List.{starts_with}

-- whether a text begins with a character that passes the test
abbrev pub begins_with : (ℕ → Bool) → List ℕ → Bool
begins_with test [] = false
begins_with test (c ∷ t) = test c

-- whether a text begins with this mark
abbrev pub begins_with_mark : List ℕ → List ℕ → Bool
begins_with_mark mark t = starts_with nat_eq t mark

-- the test for one character
abbrev pub is_character : ℕ → ℕ → Bool
is_character wanted c = c == wanted

-- what stands before the first place where what follows passes the test: the whole text, where there is no such place
unfoldable pub run_to : (List ℕ → Bool) → List ℕ → List ℕ
run_to test [] = []
run_to test (c ∷ t) = if test (c ∷ t) then [] else c ∷ run_to test t

-- what stands from that place on: nothing, where there is no such place
unfoldable pub rest_from : (List ℕ → Bool) → List ℕ → List ℕ
rest_from test [] = []
rest_from test (c ∷ t) = if test (c ∷ t) then c ∷ t else rest_from test t
