use Rattle.std.proofs.Common.{ap, sym, ◌∙◌}
use Rattle.std.specs.Vec.Iter.{into_iter_items}
use Rattle.pur_tree.specs.Image.{nodes_of, node_before}
use Rattle.pur_tree.specs.Nodes.{plain_elem, nodes_append}
use Rattle.pur_tree.specs.Walks.{walk}
use Rattle.pur_tree.proofs.NodeLemmas.{before_text, before_elem}
use Rattle.pur_tree.proofs.NodesLemmas.{nodes_append-none}
use Rattle.pur_tree.proofs.PushLemmas.{none_left}
use Rattle.pur_tree.proofs.walking.+walk_nodes.Goals as goal

pub loop-node-preserved-in-Continue-branch-2 : goal.loop-node-preserved-in-Continue-branch-2
loop-node-preserved-in-Continue-branch-2 g t c =
    let made = g.R.Rule.made c.args.rule.now in
    let done = nodes_of c.loop-node.out.items in
    let rest = nodes_of (into_iter_items c.next.new.self) in
    c.in_ok-push_text_node-in-Text.ensures (walk made rest)
    ∙ ap (λ f. nodes_append done (walk made f)) (sym (ap (λ n. node_before n rest) c.in-Text.is ∙ before_text c.in-Text.text rest))
    ∙ ap (λ xs. nodes_append done (walk made (nodes_of xs))) (sym c.in-Some.ensures.steps.0)
    ∙ c.loop-node.invariant

pub loop-node-preserved : goal.loop-node-preserved
loop-node-preserved g t c =
    let made = g.R.Rule.made c.args.rule.now in
    let done = nodes_of c.loop-node.out.items in
    let rest = nodes_of (into_iter_items c.next.new.self) in
    let elem = c.in-Elem.elem in
    c.in_ok-put-in-Elem.ensures (walk made rest)
    ∙ ap (λ k. nodes_append done (nodes_append (made (plain_elem elem.name elem.attrs) k) (walk made rest))) c.in_ok-children-in-Elem.ensures
    ∙ ap (λ f. nodes_append done (walk made f)) (sym (ap (λ n. node_before n rest) c.in-Elem.is ∙ before_elem elem.name elem.attrs elem.children rest))
    ∙ ap (λ xs. nodes_append done (walk made (nodes_of xs))) (sym c.in-Some.ensures.steps.0)
    ∙ c.loop-node.invariant

pub returns : goal.returns
returns g t c =
    let made = g.R.Rule.made c.args.rule.now in
    let done = nodes_of c.loop-node.out.items in
    ap nodes_of c.without_slack.ensures
    ∙ sym (nodes_append-none done)
    ∙ ap (λ xs. nodes_append done (walk made (nodes_of xs))) (sym (none_left c.loop-node.node-iterator c.in-None.ensures.steps.0))
    ∙ c.loop-node.invariant
