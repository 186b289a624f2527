-- What a sheet loses before it is read: the marks of HTML's comments round it, and its own comments (CSS 2.1, section 4.1.1,
-- CDO and CDC, and section 4.1.9).
use Rattle.std.specs.Prelude.{ℕ, zero, suc, nat_eq, Bool, true, false, if◌then◌else◌, List, [], ◌∷◌, codes}
use Rattle.std.specs.List.{starts_with}

-- whether a text begins with this mark
abbrev pub begins : List ℕ → List ℕ → Bool
begins mark text = starts_with nat_eq text mark

-- a text without each `<!--` and each `-->`, from the left; its first n characters belong to one that was found
unfoldable pub unmarked_behind : ℕ → List ℕ → List ℕ
unmarked_behind n [] = []
unmarked_behind (suc n) (c ∷ text) = unmarked_behind n text
unmarked_behind zero (c ∷ text) =
    if begins (codes "<!--") (c ∷ text) then unmarked_behind 3 text
    else (if begins (codes "-->") (c ∷ text) then unmarked_behind 2 text else c ∷ unmarked_behind 0 text)

abbrev pub unmarked : List ℕ → List ℕ
unmarked text = unmarked_behind 0 text

-- a text with one space for each comment, `/*` through the next `*/`, and without one that stays open; inside one or not, and its first n
-- characters belong to a mark that was found, so a star that opens a comment doesn't close it
unfoldable pub uncommented_behind : Bool → ℕ → List ℕ → List ℕ
uncommented_behind inside n [] = []
uncommented_behind inside (suc n) (c ∷ text) = uncommented_behind inside n text
uncommented_behind false zero (c ∷ text) =
    if begins (codes "/*") (c ∷ text) then uncommented_behind true 1 text else c ∷ uncommented_behind false 0 text
uncommented_behind true zero (c ∷ text) =
    if begins (codes "*/") (c ∷ text) then 0x20 ∷ uncommented_behind false 1 text else uncommented_behind true 0 text

abbrev pub uncommented : List ℕ → List ℕ
uncommented text = uncommented_behind false 0 text
