-- What the bodies of a table must have so that one of them changes.
use Rattle.std.specs.Prelude.{Bool, false, ◌||◌}
use Rattle.pur_tree.specs.Nodes.{Nodes, no_nodes, text_first, elem_first}
use Rattle.pur_nesting.specs.Parts.{role_of}
use Rattle.pur_nesting.specs.Tables.{is_head_or_foot}

-- a head or a foot is among the nodes
abbrev pub has_head_or_foot : Nodes → Bool
has_head_or_foot no_nodes = false
has_head_or_foot (text_first s rest) = has_head_or_foot rest
has_head_or_foot (elem_first e kids rest) = is_head_or_foot (role_of e.name) || has_head_or_foot rest
