use Rattle.std.proofs.Common.{◌≡◌, List, [], ◌∷◌, ◌++◌, refl, ap, sym, ◌∙◌, string_bytes}
use Rattle.std.specs.Str.{chars}
use Rattle.std.specs.declared.alloc.Global.{Global}
use Rattle.std.specs.declared.vec.Vec.{Vec}
use Rattle.pur_names.specs.declared.elements.Element.{Element}
use Rattle.pur_tree.specs.declared.node.Node.{Node, Text, Elem', Row_of-Node, end_of-Node, more_of-Node}
use Rattle.pur_tree.specs.declared.node.Node.TheBlock as block
use Rattle.pur_tree.specs.declared.node.Node.TheVariants as variants
use Rattle.pur_attrlist.specs.Attributes.{Attribute}
use Rattle.pur_tree.specs.Nodes.{plain_elem, Nodes, no_nodes, text_first, elem_first, nodes_append}
use Rattle.pur_tree.specs.Image.{node_before, row_nodes, nodes_of}

-- a text node of the program is a text
pub before_text : (s : _) (rest : Nodes) → node_before (variants.Text s) rest ≡ text_first (chars (string_bytes s)) rest
unfolding node_before
before_text s rest = refl

row_items : {n : _} (row : Row_of-Node n) → row_nodes row ≡ nodes_of (block.items-the_row-Node _ row)
unfolding row_nodes
row_items end_of-Node = refl
row_items (more_of-Node x row) = ap (node_before x) (row_items row)

-- an element of the program is an element with the nodes of its children
pub before_elem : (name : Element) (attrs : List Attribute) (kids : Vec Node Global) (rest : Nodes)
    → node_before (Elem' name attrs (block.shape-the_row-Node-0 kids) (block.hidden-the_row-Node-0 kids)) rest ≡ elem_first (plain_elem name attrs) (nodes_of kids.items) rest
unfolding node_before
before_elem name attrs kids rest =
    ap (λ kids. elem_first (plain_elem name attrs) kids rest) (row_items (block.hidden-the_row-Node-0 kids) ∙ ap nodes_of (block.items_hidden-the_row-Node-0 kids))

-- a node before nodes, and after them others
pub before-append : (x : Node) (f g : Nodes) → nodes_append (node_before x f) g ≡ node_before x (nodes_append f g)
unfolding node_before
before-append (Text s) f g = refl
before-append (Elem' name attrs shape row) f g = refl

-- the nodes of a list of the program, before nodes
pub nodes_of_append : (xs ys : List Node) → nodes_of (xs ++ ys) ≡ nodes_append (nodes_of xs) (nodes_of ys)
nodes_of_append [] ys = refl
nodes_of_append (x ∷ xs) ys = ap (node_before x) (nodes_of_append xs ys) ∙ sym (before-append x (nodes_of xs) (nodes_of ys))

-- one node alone, before nodes
pub before_append_one : (x : Node) (more : Nodes) → nodes_append (nodes_of (x ∷ [])) more ≡ node_before x more
before_append_one x more = before-append x no_nodes more
