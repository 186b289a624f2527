use Rattle.std.proofs.Common.{◌≡◌}
use Rattle.std.specs.Prelude.{if◌then◌else◌}
use Rattle.std.specs.Vec.Iter.{into_iter_items}
use Rattle.pur_tree.specs.Nodes.{nodes_append}
use Rattle.pur_tree.specs.Image.{nodes_of}
use Rattle.pur_nesting.specs.Tables.{from_first_element}
use Rattle.pur_nesting.proofs.bodies.from_first_element.Given as goal

abbrev pub invariant-loop-node : goal.invariant-loop-node
invariant-loop-node l =
    nodes_append (nodes_of l.out.items) (if l.met then nodes_of (into_iter_items l.node-iterator) else from_first_element (nodes_of (into_iter_items l.node-iterator)))
    ≡ from_first_element (nodes_of l.fn.nodes.items)
