use Rattle.std.proofs.Common.{◌≡◌, ◌++◌, drop}
use Rattle.std.specs.Prelude.{encode_utf8_all}
use Rattle.pur_tree.specs.Image.{nodes_of}
use Rattle.pur_tree.specs.Spelling.{spelling_of}
use Rattle.pur_writer.proofs.writing.+write.Given as goal

abbrev pub invariant-push_nodes-loop-node : goal.invariant-push_nodes-loop-node
invariant-push_nodes-loop-node l =
    l.out.items ++ encode_utf8_all (spelling_of (nodes_of (drop l.node-index l.nodes))) ≡ l.initial.out.items ++ encode_utf8_all (spelling_of (nodes_of l.nodes))
