-- What is left is right behind the ids so far where all are.
use Rattle.std.proofs.Common.{◌≡◌, ℕ, List, drop}
use Rattle.std.specs.Str.{chars}
use Rattle.pur_tree.specs.Image.{nodes_of}
use Rattle.pur_validity.specs.Attributes.{ids_of}
use Rattle.pur_reader.specs.Private.Judging.{seen_in, seen_behind, ids_right}
use Rattle.pur_reader.proofs.validity.+have_right_ids.Given as goal

abbrev pub invariant-have_right_ids-loop-node : goal.invariant-have_right_ids-loop-node
invariant-have_right_ids-loop-node l = record {
  right : ids_right (chars l.prefix) (seen_in l.seen) (ids_of (nodes_of (drop l.node-index l.nodes))) ≡ ids_right (chars l.prefix) (seen_in l.initial.seen) (ids_of (nodes_of l.nodes));
  seen : (id : List ℕ) → seen_behind (seen_in l.seen) (ids_of (nodes_of (drop l.node-index l.nodes))) id ≡ seen_behind (seen_in l.initial.seen) (ids_of (nodes_of l.nodes)) id;
}
