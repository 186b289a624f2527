use Rattle.std.proofs.Common.{true, false, ap}
use Rattle.pur_names.specs.declared.elements.Element.TheVariants.{Tbody}
use Rattle.pur_tree.specs.Image.{nodes_of}
use Rattle.pur_tree.specs.Nodes.{bare, elem_first, nodes_append}
use Rattle.pur_nesting.specs.Tables.{run_of_rows, runs_in_bodies}
use Rattle.pur_nesting.proofs.bodies.Runs.put_text.Goals as goal

pub returns-in_ok-push_text_node : goal.returns-in_ok-push_text_node
returns-in_ok-push_text_node c = λ more.
    rw c.if-self.true
    (ap (λ k. nodes_append (nodes_of c.args.self.now.done.items) (elem_first (bare Tbody) k (runs_in_bodies true more))) (c.in_ok-push_text_node.ensures (run_of_rows more)))

pub returns-in_ok-push_text_node-2 : goal.returns-in_ok-push_text_node-2
returns-in_ok-push_text_node-2 c = λ more. rw c.if-self.false (c.in_ok-push_text_node-2.ensures (runs_in_bodies false more))
