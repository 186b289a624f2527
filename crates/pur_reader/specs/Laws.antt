-- What is said of spelling.
use Rattle.std.specs.Prelude.{ℕ, ◌≡◌, List}
use Rattle.pur_tree.specs.Nodes.{Nodes}
use Rattle.pur_tree.specs.Spelling.{AreSpelled}

-- bytes are the spelling of at most one list of nodes
abbrev pub SpellingIsUnique : Type 0
SpellingIsUnique = (n m : Nodes) (bytes : List ℕ) → AreSpelled n bytes → AreSpelled m bytes → n ≡ m
