use Rattle.pur_tree.proofs.HoldsLemmas.{IsForest-walk}
use Rattle.pur_tree.proofs.laws.walks_keep_forests.Goals as goal

pub returns : goal.returns
returns c = IsForest-walk
