use Rattle.pur_tree.proofs.WalkLemmas.{count_in_text-walk}
use Rattle.pur_tree.proofs.laws.walks_count.Goals as goal

pub returns : goal.returns
returns c = count_in_text-walk
