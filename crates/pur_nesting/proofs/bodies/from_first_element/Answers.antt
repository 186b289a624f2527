use Rattle.std.proofs.Common.{◌≡◌, List, [], Bool, true, false, ap, sym, ◌∙◌}
use Rattle.std.specs.Prelude.{if◌then◌else◌}
use Rattle.std.specs.Vec.Iter.{into_iter_items}
use Rattle.pur_tree.specs.Image.{nodes_of}
use Rattle.pur_tree.specs.declared.node.Node.{Node}
use Rattle.pur_tree.specs.Nodes.{no_nodes, nodes_append}
use Rattle.pur_tree.proofs.NodesLemmas.{nodes_append-none}
use Rattle.pur_nesting.specs.Tables.{from_first_element}
use Rattle.pur_tree.proofs.PushLemmas.{pushed_to, none_left}
use Rattle.pur_nesting.proofs.bodies.from_first_element.Goals as goal

none_after : (met : Bool) (xs : List Node) → xs ≡ [] → (if met then nodes_of xs else from_first_element (nodes_of xs)) ≡ no_nodes
none_after true xs e = ap nodes_of e
none_after false xs e = ap (λ ys. from_first_element (nodes_of ys)) e

pub loop-node-preserved-in-Continue-1 : goal.loop-node-preserved-in-Continue-1
loop-node-preserved-in-Continue-1 c =
    let rest = nodes_of (into_iter_items c.next.new.self) in
    let step = rw c.if-met.true at (c.met_after-met.ensures rest) in
    rw c.if-met.true
    (pushed_to c.loop-node.out.items c.push.new.self.items c.in-Some.node rest c.in_ok-push.ensures.items
    ∙ ap (nodes_append (nodes_of c.loop-node.out.items)) (sym step)
    ∙ ap (λ xs. nodes_append (nodes_of c.loop-node.out.items) (if c.loop-node.met then nodes_of xs else from_first_element (nodes_of xs))) (sym c.in-Some.ensures.steps.0)
    ∙ c.loop-node.invariant)

pub returns : goal.returns
returns c =
    sym (nodes_append-none (nodes_of c.loop-node.out.items))
    ∙ ap (nodes_append (nodes_of c.loop-node.out.items)) (sym (none_after c.loop-node.met _ (none_left c.loop-node.node-iterator c.in-None.ensures.steps.0)))
    ∙ c.loop-node.invariant
