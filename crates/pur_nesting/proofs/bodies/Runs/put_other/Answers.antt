use Rattle.std.proofs.Common.{◌≡◌, false, refl, ◌∙◌}
use Rattle.pur_tree.specs.Image.{nodes_of}
use Rattle.pur_tree.specs.Nodes.{plain_elem, elem_first, nodes_append}
use Rattle.pur_nesting.specs.Tables.{runs_in_bodies}
use Rattle.pur_nesting.specs.Private.Grouping.{pending}
use Rattle.pur_nesting.proofs.bodies.Runs.put_other.Goals as goal

pub returns : goal.returns
returns c = λ more.
    let e = plain_elem c.args.elem.name c.args.elem.attrs in
    let kids = nodes_of c.args.elem.children.items in
    let ended = c.end_run.new.self in
    let over : ended.in_run ≡ false = c.in_ok-end_run.ensures.over in
    let front : pending (record ended { done = c.push_elem.new.out }) more ≡ nodes_append (nodes_of ended.done.items) (elem_first e kids (runs_in_bodies false more)) =
    rw over (c.in_ok-push_elem.ensures (runs_in_bodies false more)) in
    let back : nodes_append (nodes_of ended.done.items) (elem_first e kids (runs_in_bodies false more)) ≡ pending ended (elem_first e kids more) =
    rw (over, c.requires) refl in
    front ∙ back ∙ c.in_ok-end_run.ensures.same e kids more c.requires
