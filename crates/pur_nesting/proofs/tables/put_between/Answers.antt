use Rattle.std.proofs.Common.{◌∙◌}
use Rattle.pur_tree.specs.Image.{nodes_of}
use Rattle.pur_tree.specs.Nodes.{nodes_append}
use Rattle.pur_nesting.proofs.tables.put_between.Goals as goal

pub returns : goal.returns
returns c = λ more.
    let parts = c.args.parts.now in
    let behind_heads = nodes_append (nodes_of parts.feet.items) more in
    let behind_columns = nodes_append (nodes_of parts.heads.items) behind_heads in
    c.in_ok-move_all-4.ensures more
    ∙ c.in_ok-move_all-3.ensures behind_heads
    ∙ c.in_ok-move_all-2.ensures behind_columns
    ∙ c.in_ok-move_all.ensures (nodes_append (nodes_of parts.columns.items) behind_columns)
