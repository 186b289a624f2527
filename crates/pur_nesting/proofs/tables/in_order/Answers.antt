use Rattle.std.proofs.Common.{◌≡◌, ap, sym, ◌∙◌}
use Rattle.pur_tree.specs.Image.{nodes_of}
use Rattle.pur_tree.specs.Nodes.{no_nodes, nodes_append}
use Rattle.pur_tree.proofs.NodesLemmas.{nodes_append-none}
use Rattle.pur_nesting.specs.Private.Grouping.{before_bodies}
use Rattle.pur_nesting.specs.Tables.{as_bodies, of_one_kind}
use Rattle.pur_nesting.proofs.tables.in_order.Goals as goal

pub returns : goal.returns
returns c =
    let parts = c.args.parts.now in
    let bodies = of_one_kind (as_bodies c.args.tbody (nodes_of parts.bodies.items)) in
    let body : nodes_of c.in_ok-bodies-2.bodies.items ≡ bodies =
    rw c.replace-bodies.ensures.value at (c.in_ok-bodies-2.ensures ∙ ap of_one_kind c.in_ok-bodies.ensures) in
    let front : nodes_append (nodes_of c.put_between.new.out.items) bodies ≡ nodes_append (nodes_of parts.lead.items) (before_bodies (nodes_of parts.captions.items) (nodes_of parts.columns.items) (nodes_of parts.heads.items) (nodes_of parts.feet.items) bodies) =
    rw c.replace-children.ensures.value at (c.in_ok-put_between.ensures bodies) in
    ap nodes_of c.without_slack.ensures
    ∙ sym (nodes_append-none (nodes_of c.in_ok-all.all.items))
    ∙ c.in_ok-all.ensures no_nodes
    ∙ ap (nodes_append (nodes_of c.put_between.new.out.items)) (nodes_append-none _ ∙ body)
    ∙ front
