use Rattle.std.proofs.Common.{◌≡◌, true, refl, ap, ◌∙◌}
use Rattle.pur_names.specs.declared.elements.Element.TheVariants.{Tbody}
use Rattle.pur_tree.specs.Image.{nodes_of}
use Rattle.pur_tree.specs.Nodes.{bare, plain_elem, elem_first, nodes_append}
use Rattle.pur_nesting.specs.Tables.{run_of_rows, runs_in_bodies}
use Rattle.pur_nesting.specs.Private.Grouping.{pending}
use Rattle.pur_nesting.proofs.bodies.Runs.put_row.Goals as goal

pub returns : goal.returns
returns c = λ more.
    let e = plain_elem c.args.row.name c.args.row.attrs in
    let kids = nodes_of c.args.row.children.items in
    let begun = c.begin_run.new.self in
    let on : begun.in_run ≡ true = c.begin_run.ensures.begun in
    let front : pending (record begun { run = c.push_elem.new.out }) more
    ≡ nodes_append (nodes_of begun.done.items) (elem_first (bare Tbody) (nodes_append (nodes_of begun.run.items) (elem_first e kids (run_of_rows more))) (runs_in_bodies true more)) =
    rw on (ap (λ k. nodes_append (nodes_of begun.done.items) (elem_first (bare Tbody) k (runs_in_bodies true more))) (c.in_ok-push_elem.ensures (run_of_rows more))) in
    let back : nodes_append (nodes_of begun.done.items) (elem_first (bare Tbody) (nodes_append (nodes_of begun.run.items) (elem_first e kids (run_of_rows more))) (runs_in_bodies true more))
    ≡ pending begun (elem_first e kids more) =
    rw (on, c.requires) refl in
    front ∙ back ∙ c.begin_run.ensures.same e kids more c.requires
