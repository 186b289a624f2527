use Rattle.std.proofs.Common.{false, ap, sym, ◌∙◌}
use Rattle.pur_names.specs.declared.elements.Element.TheVariants.{Tbody}
use Rattle.pur_tree.specs.Image.{nodes_of}
use Rattle.pur_tree.specs.Nodes.{bare, no_nodes, elem_first, nodes_append}
use Rattle.pur_tree.proofs.NodesLemmas.{nodes_append-none}
use Rattle.pur_nesting.specs.Tables.{runs_in_bodies}
use Rattle.pur_nesting.proofs.bodies.Runs.end_run.Goals as goal

pub returns-in_ok-push_elem-clause-same : goal.returns-in_ok-push_elem-clause-same
returns-in_ok-push_elem-clause-same c = λ e kids more other.
    rw (c.if-self.true, other)
    ((rw (c.bare.ensures.itself, c.bare.ensures.children) at (c.in_ok-push_elem.ensures (elem_first e kids (runs_in_bodies false more))))
    ∙ ap (λ k. nodes_append (nodes_of c.args.self.now.done.items) (elem_first (bare Tbody) k (elem_first e kids (runs_in_bodies false more))))
    (ap (λ v. nodes_of v.items) c.replace-rows.ensures.value ∙ sym (nodes_append-none (nodes_of c.args.self.now.run.items))))

pub returns-in_ok-push_elem-clause-all : goal.returns-in_ok-push_elem-clause-all
returns-in_ok-push_elem-clause-all c =
    rw (c.if-self.true)
    ((rw (c.bare.ensures.itself, c.bare.ensures.children) at (c.in_ok-push_elem.ensures no_nodes))
    ∙ ap (λ k. nodes_append (nodes_of c.args.self.now.done.items) (elem_first (bare Tbody) k no_nodes))
    (ap (λ v. nodes_of v.items) c.replace-rows.ensures.value ∙ sym (nodes_append-none (nodes_of c.args.self.now.run.items))))
