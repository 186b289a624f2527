-- Nodes put behind others.
use Rattle.std.proofs.Common.{◌≡◌, List, [], ◌∷◌, ◌++◌, string_bytes, ap, ◌∙◌, arith}
use Rattle.std.specs.Str.{chars}
use Rattle.std.specs.declared.alloc.Global.{Global}
use Rattle.std.specs.declared.vec.Vec.{Vec}
use Rattle.std.specs.declared.vec.IntoIter.{IntoIter}
use Rattle.std.specs.Vec.Iter.{into_iter_items, into_iter_len}
use Rattle.std.proofs.lemmas.List.{nil_from_length}
use Rattle.pur_names.specs.declared.elements.Element.{Element}
use Rattle.pur_attrlist.specs.Attributes.{Attribute}
use Rattle.pur_tree.specs.declared.node.Node.{Node, Elem'}
use Rattle.pur_tree.specs.declared.node.Node.TheBlock as block
use Rattle.pur_tree.specs.declared.node.Node.TheVariants as variants
use Rattle.pur_tree.specs.Nodes.{Nodes, text_first, elem_first, plain_elem, nodes_append}
use Rattle.pur_tree.specs.Image.{nodes_of, node_before}
use Rattle.pur_tree.proofs.NodeLemmas.{nodes_of_append, before_append_one, before_text, before_elem}
use Rattle.pur_tree.proofs.NodesLemmas.{nodes_append-assoc}

pub pushed_to : (xs ys : List Node) (x : Node) (more : Nodes) → ys ≡ xs ++ x ∷ [] → nodes_append (nodes_of ys) more ≡ nodes_append (nodes_of xs) (node_before x more)
pushed_to xs ys x more e =
    ap (λ zs. nodes_append (nodes_of zs) more) e ∙ ap (λ f. nodes_append f more) (nodes_of_append xs (x ∷ []))
    ∙ nodes_append-assoc (nodes_of xs) (nodes_of (x ∷ [])) more ∙ ap (nodes_append (nodes_of xs)) (before_append_one x more)

pub pushed_text : (xs ys : List Node) (s : _) (more : Nodes) → ys ≡ xs ++ variants.Text s ∷ []
    → nodes_append (nodes_of ys) more ≡ nodes_append (nodes_of xs) (text_first (chars (string_bytes s)) more)
pushed_text xs ys s more e = pushed_to xs ys (variants.Text s) more e ∙ ap (nodes_append (nodes_of xs)) (before_text s more)

pub pushed_elem : (xs ys : List Node) (name : Element) (attrs : List Attribute) (kids : Vec Node Global) (more : Nodes)
    → ys ≡ xs ++ Elem' name attrs (block.shape-the_row-Node-0 kids) (block.hidden-the_row-Node-0 kids) ∷ []
    → nodes_append (nodes_of ys) more ≡ nodes_append (nodes_of xs) (elem_first (plain_elem name attrs) (nodes_of kids.items) more)
pushed_elem xs ys name attrs kids more e =
    pushed_to xs ys (Elem' name attrs (block.shape-the_row-Node-0 kids) (block.hidden-the_row-Node-0 kids)) more e
    ∙ ap (nodes_append (nodes_of xs)) (before_elem name attrs kids more)

pub appended : (xs ys zs : List Node) (more : Nodes) → ys ≡ xs ++ zs
    → nodes_append (nodes_of ys) more ≡ nodes_append (nodes_of xs) (nodes_append (nodes_of zs) more)
appended xs ys zs more e =
    ap (λ ws. nodes_append (nodes_of ws) more) e ∙ ap (λ f. nodes_append f more) (nodes_of_append xs zs)
    ∙ nodes_append-assoc (nodes_of xs) (nodes_of zs) more

-- what ends has nothing left
pub none_left : (it : IntoIter Node Global) → into_iter_len it ≡ 0 → into_iter_items it ≡ []
none_left it e = nil_from_length _ (omega (arith, e, it.rest.ok.0))
