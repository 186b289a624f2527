use Rattle.pur_tree.proofs.TokensLemmas.{joined-joined, count-joined}
use Rattle.pur_tree.proofs.TreeLemmas.{neighbours-joined}
use Rattle.pur_tree.proofs.laws.joins_tokens.Goals as goal

pub returns : goal.returns
returns c tokens = record { front = joined-joined tokens; neighbours = neighbours-joined tokens; counts = λ c. count-joined c tokens }
