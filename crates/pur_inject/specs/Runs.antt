-- Runs of signs: neighbours that pass a test, as many as there are.
use Rattle.std.specs.Prelude.{Bool, List, [], ◌∷◌, ◌++◌, if◌then◌else◌}
use Rattle.pur_inject.specs.Signs.{Sign}

-- the run at the front of signs: their longest front of which each passes the test; it may be empty
abbrev pub front_run : (Sign → Bool) → List Sign → List Sign
front_run test [] = []
front_run test (x ∷ signs) = if test x then x ∷ front_run test signs else []

-- the runs of signs, in order; where signs that don't pass are neighbours, an empty one lies between them
abbrev pub later_runs : (Sign → Bool) → List Sign → List (List Sign)
later_runs test [] = []
later_runs test (x ∷ signs) = if test x then later_runs test signs else front_run test signs ∷ later_runs test signs

abbrev pub runs_of : (Sign → Bool) → List Sign → List (List Sign)
runs_of test signs = front_run test signs ∷ later_runs test signs

-- what stands behind the run at the front, with what is made of a run in the place of each
abbrev pub behind_run : (Sign → Bool) → (List Sign → List Sign) → List Sign → List Sign
behind_run test made [] = []
behind_run test made (x ∷ signs) =
    if test x then behind_run test made signs else x ∷ (made (front_run test signs) ++ behind_run test made signs)

-- signs with what is made of a run in the place of each
abbrev pub with_runs : (Sign → Bool) → (List Sign → List Sign) → List Sign → List Sign
with_runs test made signs = made (front_run test signs) ++ behind_run test made signs
