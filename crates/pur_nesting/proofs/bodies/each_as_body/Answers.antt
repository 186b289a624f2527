use Rattle.std.proofs.Common.{ap, sym, ◌∙◌}
use Rattle.pur_tree.specs.Image.{nodes_of}
use Rattle.pur_tree.specs.Nodes.{nodes_append}
use Rattle.pur_tree.proofs.NodesLemmas.{nodes_append-none}
use Rattle.pur_nesting.specs.Tables.{as_bodies}
use Rattle.pur_tree.proofs.PushLemmas.{none_left}
use Rattle.pur_nesting.proofs.bodies.each_as_body.Goals as goal

pub returns : goal.returns
returns c =
    sym (nodes_append-none (nodes_of c.loop-node.out.items))
    ∙ ap (λ xs. nodes_append (nodes_of c.loop-node.out.items) (as_bodies c.args.tbody (nodes_of xs))) (sym (none_left c.loop-node.node-iterator c.in-None.ensures.steps.0))
    ∙ c.loop-node.invariant
