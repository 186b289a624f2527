-- Nodes in which texts are joined, while they are gone through.
use Rattle.std.specs.Prelude.{ℕ, List, Bool, true, false, ◌&&◌, not, string_bytes}
use Rattle.std.specs.Str.{chars}
use Rattle.pur_tree.specs.declared.joining.Joining.{Joining}
use Rattle.pur_tree.specs.Nodes.{Nodes, nodes_append, is_joined, starts_with_text}
use Rattle.pur_tree.specs.Image.{nodes_of}
use Rattle.pur_tree.specs.Walks.{text_joined}

-- nodes behind a run of text, where there is one
abbrev pub behind_run : Bool → List ℕ → Nodes → Nodes
behind_run true run more = text_joined run more
behind_run false run more = more

-- what there will be when these nodes are put behind what is joined
abbrev pub joining : Joining → Nodes → Nodes
joining j more = nodes_append (nodes_of j.done.items) (behind_run j.in_run (chars (string_bytes j.run)) more)

-- whether nodes are joined behind a text, or behind none
abbrev pub joined_behind : Bool → Nodes → Bool
joined_behind after_text nodes = not (after_text && starts_with_text nodes) && is_joined nodes
