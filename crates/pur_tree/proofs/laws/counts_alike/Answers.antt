use Rattle.pur_tree.proofs.TokensLemmas.{count-tokens}
use Rattle.pur_tree.proofs.laws.counts_alike.Goals as goal

pub returns : goal.returns
returns c = count-tokens
