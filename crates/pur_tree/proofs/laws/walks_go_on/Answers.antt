use Rattle.pur_tree.proofs.WalkLemmas.{walk-append, walk-same, walk-stays}
use Rattle.pur_tree.proofs.laws.walks_go_on.Goals as goal

pub returns : goal.returns
returns c = record { append = walk-append; same = walk-same; stays = walk-stays }
