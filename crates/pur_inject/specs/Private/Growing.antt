-- Nodes that grow at their end.
use Rattle.std.specs.Prelude.{string_bytes}
use Rattle.std.specs.Str.{chars}
use Rattle.pur_tree.specs.Image.{nodes_of}
use Rattle.pur_tree.specs.Nodes.{Nodes, nodes_append}
use Rattle.pur_inject.specs.Signs.{letters, signs_before}
use Rattle.pur_inject.specs.declared.growing.Growing.{Growing}

-- what there is when these nodes are put behind them and the text at hand
abbrev pub grown : Growing → Nodes → Nodes
grown g more = nodes_append (nodes_of g.nodes.items) (signs_before (letters (chars (string_bytes g.text))) more)
