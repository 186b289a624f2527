use Rattle.std.proofs.Common.{ap, sym, ◌∙◌}
use Rattle.pur_tree.specs.Tokens.{tree_of}
use Rattle.pur_tree.proofs.TreeLemmas.{tree_of-tokens}
use Rattle.pur_tree.proofs.laws.has_one_tree.Goals as goal

pub returns : goal.returns
returns c n tokens s e = sym (tree_of-tokens n s) ∙ ap tree_of e
