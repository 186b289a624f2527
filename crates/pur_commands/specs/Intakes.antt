-- What takes a text while it is read.
use Rattle.std.specs.Prelude.{ℕ, ◌≡◌, List, ◌++◌}
use Rattle.pur_text.specs.Cleaning.{cleaned}
use Rattle.pur_text.specs.Feeding.{Fed, cleaned_with}

-- a cleaner was fed these bytes, in pieces
abbrev pub HasCleaned : Fed → List ℕ → Type 0
HasCleaned fed bytes = (more : List ℕ) → cleaned_with fed more ≡ cleaned (bytes ++ more)
