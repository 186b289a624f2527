-- Runs of characters, and the bounds of what a reader keeps.
use Rattle.std.specs.Prelude.{ℕ, ◌==◌, not, max, Bool, false, List, [], ◌∷◌}
use Rattle.std.specs.Str.{bytes_eq}
use Rattle.pur_text.specs.Characters.{is_space}
use Rattle.pur_sheet.specs.Selectors.{is_mark}
use Rattle.pur_sheet.specs.declared.statements.Reading.{Reading}
use Rattle.pur_sheet.specs.declared.statements.Reading.TheVariants.{Prelude, Block, AtRule}

abbrev pub is_character : ℕ → ℕ → Bool
is_character wanted c = c == wanted

abbrev pub is_no_mark : ℕ → Bool
is_no_mark c = not (is_mark c)

abbrev pub is_no_space : ℕ → Bool
is_no_space c = not (is_space c)

-- the first of these words is this one
abbrev pub begins_with_word : List ℕ → List (List ℕ) → Bool
begins_with_word wanted [] = false
begins_with_word wanted (word ∷ words) = bytes_eq word wanted

-- how much is open
abbrev pub size_of : Reading → ℕ
size_of (Prelude nesting) = nesting.depth
size_of (Block brackets) = max brackets.nesting.depth brackets.braces
size_of (AtRule brackets) = max brackets.nesting.depth brackets.braces
