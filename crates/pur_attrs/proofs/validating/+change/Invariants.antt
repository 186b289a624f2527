use Rattle.std.proofs.Common.{◌≡◌, ℕ, List, true, take, drop}
use Rattle.pur_tree.specs.Image.{nodes_of}
use Rattle.pur_tree.specs.Nodes.{nodes_append}
use Rattle.pur_tree.specs.Spelling.{has_distinct_names}
use Rattle.pur_attrs.specs.Private.Along.{seen_in, seen_behind, ids_put, valid_behind}
use Rattle.pur_attrs.proofs.validating.+change.Given as goal

abbrev pub invariant-change_nodes-loop-at : goal.invariant-change_nodes-loop-at
invariant-change_nodes-loop-at g l = record {
  unvisited : goal.unvisited-change_nodes-loop-at g l;
  nodes : nodes_append (nodes_of (take l.at l.nodes.items)) (valid_behind l.settings l.gate (seen_in l.seen) (nodes_of (drop l.at l.initial.nodes.items)))
      ≡ valid_behind l.settings l.gate (seen_in l.initial.seen) (nodes_of l.initial.nodes.items);
  seen : (id : List ℕ) → seen_behind (seen_in l.seen) (ids_put l.settings l.gate (nodes_of (drop l.at l.initial.nodes.items))) id
      ≡ seen_behind (seen_in l.initial.seen) (ids_put l.settings l.gate (nodes_of l.initial.nodes.items)) id;
  distinct : has_distinct_names (nodes_of (take l.at l.nodes.items)) ≡ true;
}
