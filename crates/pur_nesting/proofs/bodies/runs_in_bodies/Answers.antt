use Rattle.std.proofs.Common.{◌≡◌, false, refl, ap, sym, ◌∙◌}
use Rattle.pur_tree.specs.Image.{nodes_of}
use Rattle.pur_tree.specs.Nodes.{no_nodes, nodes_append}
use Rattle.pur_tree.proofs.NodesLemmas.{nodes_append-none}
use Rattle.pur_nesting.specs.Private.Grouping.{pending}
use Rattle.pur_tree.proofs.PushLemmas.{none_left}
use Rattle.pur_nesting.proofs.bodies.runs_in_bodies.Goals as goal

pub returns : goal.returns
returns c =
    let ended = c.end_run.new.self in
    let over : ended.in_run ≡ false = c.in_ok-end_run.ensures.over in
    let back : pending ended no_nodes ≡ nodes_append (nodes_of ended.done.items) no_nodes = rw over refl in
    sym (nodes_append-none (nodes_of ended.done.items))
    ∙ sym back
    ∙ c.in_ok-end_run.ensures.all
    ∙ ap (λ xs. pending c.loop-node.runs (nodes_of xs)) (sym (none_left c.loop-node.node-iterator c.in-None.ensures.steps.0))
    ∙ c.loop-node.invariant
