use Rattle.std.proofs.Common.{◌≡◌, false}
use Rattle.std.specs.Vec.Iter.{into_iter_items}
use Rattle.pur_tree.specs.Image.{nodes_of}
use Rattle.pur_nesting.specs.Tables.{runs_in_bodies}
use Rattle.pur_nesting.specs.Private.Grouping.{pending}
use Rattle.pur_nesting.proofs.bodies.runs_in_bodies.Given as goal

abbrev pub invariant-loop-node : goal.invariant-loop-node
invariant-loop-node l = pending l.runs (nodes_of (into_iter_items l.node-iterator)) ≡ runs_in_bodies false (nodes_of l.fn.nodes.items)
