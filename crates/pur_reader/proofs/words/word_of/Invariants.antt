-- The letters so far and those of what is left are the word.
use Rattle.std.proofs.Common.{◌≡◌, ◌++◌, drop}
use Rattle.pur_tree.specs.Image.{nodes_of}
use Rattle.pur_tree.specs.Words.{word_of}
use Rattle.pur_reader.proofs.words.word_of.Given as goal

abbrev pub invariant-loop-node : goal.invariant-loop-node
invariant-loop-node l = l.word.items ++ word_of l.has_text (nodes_of (drop l.node-index l.nodes)) ≡ word_of l.has_text (nodes_of l.nodes)
