-- What the code has when it has read some of a path's segments.
use Rattle.std.specs.Prelude.{ℕ, ◌-◌, Bool, if◌then◌else◌, List, [], ◌∷◌, ◌++◌, length, take, map}
use Rattle.std.specs.Borrow.{Bor}
use Rattle.pur_resolve.specs.Dots.{is_here, is_up, settled}

-- the bytes of texts
abbrev pub texts : List (Bor (List ℕ)) → List (List ℕ)
texts items = map (λ text. text.now) items

-- the segments that stay once one more is read
unfoldable pub put_on : List (List ℕ) → List ℕ → List (List ℕ)
put_on kept segment =
    if is_here segment then kept else if is_up segment then take (length kept - 1) kept else kept ++ segment ∷ []

-- the segments that stay in the end, where some stay now and others are to come
unfoldable pub settled_on : List (List ℕ) → Bool → List (List ℕ) → List (List ℕ)
settled_on kept dotted behind =
    let rest = settled dotted behind in take (length kept - rest.taken) kept ++ rest.stays
