use Rattle.std.proofs.Common.{◌≡◌}
use Rattle.std.specs.Vec.Iter.{into_iter_items}
use Rattle.pur_tree.specs.Image.{nodes_of}
use Rattle.pur_tree.specs.Nodes.{Nodes}
use Rattle.pur_inject.specs.Private.Growing.{grown}
use Rattle.pur_inject.specs.Signs.{signs_of, signs_before}
use Rattle.pur_inject.proofs.growing.Growing.put_nodes.Given as goal

abbrev pub invariant-loop-node : goal.invariant-loop-node
invariant-loop-node l =
    (more : Nodes) → grown l.self (signs_before (signs_of (nodes_of (into_iter_items l.node-iterator))) more)
    ≡ grown l.fn.self (signs_before (signs_of (nodes_of l.fn.nodes.items)) more)
