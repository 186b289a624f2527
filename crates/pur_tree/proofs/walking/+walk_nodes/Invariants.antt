use Rattle.std.proofs.Common.{◌≡◌}
use Rattle.std.specs.Vec.Iter.{into_iter_items}
use Rattle.pur_tree.specs.Image.{nodes_of}
use Rattle.pur_tree.specs.Nodes.{nodes_append}
use Rattle.pur_tree.specs.Walks.{walk}
use Rattle.pur_tree.proofs.walking.+walk_nodes.Given as goal

abbrev pub invariant-loop-node : goal.invariant-loop-node
invariant-loop-node g l =
    let made = g.R.Rule.made l.rule in
    nodes_append (nodes_of l.out.items) (walk made (nodes_of (into_iter_items l.node-iterator))) ≡ walk made (nodes_of l.fn.nodes.items)
