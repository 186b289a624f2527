-- Bytes that are the spelling of a fragment.
use Rattle.std.specs.Prelude.{ℕ, List}
use Rattle.pur_tree.specs.Nodes.{Nodes}
use Rattle.pur_tree.specs.Spelling.{AreSpelled}

-- some nodes are spelled as the bytes (XML 1.0, in one of its spellings)
pub record IsSpelled (bytes : List ℕ) : Type 0 where
  pub nodes : Nodes
  pub spelled : AreSpelled nodes bytes
