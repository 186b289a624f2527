use Rattle.std.proofs.Common.{◌≡◌, false, refl, ap, sym, ◌∙◌}
use Rattle.std.specs.Vec.Iter.{into_iter_items}
use Rattle.pur_tree.specs.Image.{nodes_of, node_before}
use Rattle.pur_tree.specs.Nodes.{no_nodes, elem_first, plain_elem, nodes_append}
use Rattle.pur_tree.proofs.NodesLemmas.{nodes_append-none}
use Rattle.pur_tree.proofs.NodeLemmas.{before_text, before_elem}
use Rattle.pur_tree.specs.Private.Joining.{joining}
use Rattle.pur_tree.specs.Walks.{joined_nodes}
use Rattle.pur_tree.proofs.PushLemmas.{none_left}
use Rattle.pur_tree.proofs.joining.+join_nodes.Goals as goal

pub loop-node-preserved-in_ok-put_text-in-Text : goal.loop-node-preserved-in_ok-put_text-in-Text
loop-node-preserved-in_ok-put_text-in-Text t c =
    let rest = nodes_of (into_iter_items c.next.new.self) in
    c.in_ok-put_text-in-Text.ensures (joined_nodes rest)
    ∙ ap (λ f. joining c.loop-node.joining (joined_nodes f)) (sym (ap (λ n. node_before n rest) c.in-Text.is ∙ before_text c.in-Text.text rest))
    ∙ ap (λ xs. joining c.loop-node.joining (joined_nodes (nodes_of xs))) (sym c.in-Some.ensures.steps.0)
    ∙ c.loop-node.invariant

pub loop-node-preserved : goal.loop-node-preserved
loop-node-preserved t c =
    let rest = nodes_of (into_iter_items c.next.new.self) in
    c.in_ok-put_elem-in-Elem.ensures (joined_nodes rest)
    ∙ ap (λ k. joining c.loop-node.joining (elem_first (plain_elem c.in-Elem.elem.name c.in-Elem.elem.attrs) k (joined_nodes rest))) c.in_ok-children-in-Elem.ensures
    ∙ ap (λ f. joining c.loop-node.joining (joined_nodes f)) (sym (ap (λ n. node_before n rest) c.in-Elem.is ∙ before_elem c.in-Elem.elem.name c.in-Elem.elem.attrs c.in-Elem.elem.children rest))
    ∙ ap (λ xs. joining c.loop-node.joining (joined_nodes (nodes_of xs))) (sym c.in-Some.ensures.steps.0)
    ∙ c.loop-node.invariant

pub returns : goal.returns
returns t c =
    let ended = c.end_run.new.self in
    let over : ended.in_run ≡ false = c.in_ok-end_run.ensures.over in
    let back : joining ended no_nodes ≡ nodes_append (nodes_of ended.done.items) no_nodes = rw over refl in
    ap nodes_of c.without_slack.ensures
    ∙ sym (nodes_append-none (nodes_of ended.done.items))
    ∙ sym back
    ∙ c.in_ok-end_run.ensures.all
    ∙ ap (λ xs. joining c.loop-node.joining (joined_nodes (nodes_of xs))) (sym (none_left c.loop-node.node-iterator c.in-None.ensures.steps.0))
    ∙ c.loop-node.invariant
