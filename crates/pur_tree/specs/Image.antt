use Rattle.std.specs.Prelude.{List, [], ◌∷◌, string_bytes}
use Rattle.std.specs.Str.{chars}
use Rattle.pur_tree.specs.declared.node.Node.{Node, Text, Elem', Row_of-Node, end_of-Node, more_of-Node}
use Rattle.pur_tree.specs.Nodes.{plain_elem, Nodes, no_nodes, text_first, elem_first}

-- a node of the program, seen as the first of a list of nodes
unfoldable mutual
  pub node_before : Node → Nodes → Nodes
  node_before (Text s) rest = text_first (chars (string_bytes s)) rest
  node_before (Elem' name attrs shape row) rest = elem_first (plain_elem name attrs) (row_nodes row) rest

  pub row_nodes : {m : _} → Row_of-Node m → Nodes
  row_nodes end_of-Node = no_nodes
  row_nodes (more_of-Node n row) = node_before n (row_nodes row)

-- the nodes of the program as contracts see them
abbrev pub nodes_of : List Node → Nodes
nodes_of [] = no_nodes
nodes_of (n ∷ ns) = node_before n (nodes_of ns)
