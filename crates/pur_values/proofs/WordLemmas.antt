-- Lists of words.
use Rattle.std.proofs.Common.{◌≡◌, ℕ, List, [], ◌∷◌, ◌||◌, refl, ap, map, Bor}
use Rattle.std.specs.List.{list_any}
use Rattle.std.specs.Str.{bytes_eq}
use Rattle.pur_values.specs.Words.{is_among}

-- words behind references
pub among_map : (words : List (Bor (List ℕ))) (word : List ℕ) → list_any (λ w. bytes_eq word w.now) words ≡ is_among (map (λ w. w.now) words) word
among_map [] word = refl
among_map (w ∷ words) word = ap (λ b. bytes_eq word w.now || b) (among_map words word)
