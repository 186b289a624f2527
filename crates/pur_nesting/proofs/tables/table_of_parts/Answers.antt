use Rattle.std.proofs.Common.{◌≡◌, [], true, false, not, sym, ◌∙◌}
use Rattle.pur_tree.specs.Image.{nodes_of}
use Rattle.pur_tree.specs.Nodes.{has_no_nodes}
use Rattle.pur_nesting.proofs.tables.table_of_parts.Goals as goal

pub returns-then-has_nodes : goal.returns-then-has_nodes
returns-then-has_nodes c =
    let full : not (has_no_nodes (nodes_of c.args.parts.bodies.items)) ≡ true = rw (← c.deref.ensures.value) (sym c.has_nodes.ensures ∙ c.if-has_nodes.true) in
    rw full c.table.ensures

pub returns-then-has_nodes-2 : goal.returns-then-has_nodes-2
returns-then-has_nodes-2 c =
    let empty : not (has_no_nodes (nodes_of c.args.parts.bodies.items)) ≡ false = rw (← c.deref.ensures.value) (sym c.has_nodes.ensures ∙ c.if-has_nodes.false) in
    let full : not (has_no_nodes (nodes_of c.args.parts.feet.items)) ≡ true = rw (← c.deref-2.ensures.value) (sym c.has_nodes-2.ensures ∙ c.if-has_nodes-2.true) in
    let gone : c.replace.new.dest.items ≡ [] = rw c.replace.ensures.after c.new.ensures.items in
    rw (empty, full) (rw (gone, c.replace.ensures.value) at c.table-then-has_nodes-2.ensures)

pub returns-then-has_nodes-3 : goal.returns-then-has_nodes-3
returns-then-has_nodes-3 c =
    let empty : not (has_no_nodes (nodes_of c.args.parts.bodies.items)) ≡ false = rw (← c.deref.ensures.value) (sym c.has_nodes.ensures ∙ c.if-has_nodes.false) in
    let empty2 : not (has_no_nodes (nodes_of c.args.parts.feet.items)) ≡ false = rw (← c.deref-2.ensures.value) (sym c.has_nodes-2.ensures ∙ c.if-has_nodes-2.false) in
    let full : not (has_no_nodes (nodes_of c.args.parts.heads.items)) ≡ true = rw (← c.deref-3.ensures.value) (sym c.has_nodes-3.ensures ∙ c.if-has_nodes-3.true) in
    let gone : c.replace-then-has_nodes-3.new.dest.items ≡ [] = rw c.replace-then-has_nodes-3.ensures.after c.new-then-has_nodes-3-2.ensures.items in
    rw (empty, empty2, full) (rw (c.new-then-has_nodes-3.ensures.items, gone, c.replace-then-has_nodes-3.ensures.value) at c.table-then-has_nodes-3.ensures)
