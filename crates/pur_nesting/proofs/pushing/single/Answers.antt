use Rattle.std.proofs.Common.{sym, ◌∙◌, ap}
use Rattle.pur_tree.specs.Image.{nodes_of}
use Rattle.pur_tree.specs.Nodes.{plain_elem, no_nodes, elem_first, nodes_append}
use Rattle.pur_tree.proofs.NodesLemmas.{nodes_append-none}
use Rattle.pur_nesting.proofs.pushing.single.Goals as goal

pub returns : goal.returns
returns c =
    sym (nodes_append-none (nodes_of c.push_elem.new.out.items)) ∙ c.in_ok-push_elem.ensures no_nodes
    ∙ ap (λ xs. nodes_append (nodes_of xs) (elem_first (plain_elem c.args.elem.name c.args.elem.attrs) (nodes_of c.args.elem.children.items) no_nodes)) c.new-out.ensures.items
