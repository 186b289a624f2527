use Rattle.std.specs.Prelude.{◌≤◌, ◌≡◌, true}
use Rattle.pur_tree.specs.Nodes.{Nodes, level_of, is_sound}
use Rattle.pur_tree.specs.Places.{level_limit}

-- what every forest keeps: no level passes the limit, no text is empty, EMPTY elements have no children
pub record IsForest (nodes : Nodes) : Type 0 where
  pub low : level_of nodes ≤ level_limit
  pub sound : is_sound nodes ≡ true
