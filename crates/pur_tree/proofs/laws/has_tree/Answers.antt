use Rattle.pur_tree.proofs.TreeLemmas.{tokens-tree_of}
use Rattle.pur_tree.proofs.laws.has_tree.Goals as goal

pub returns : goal.returns
returns c tokens b = tokens-tree_of b
