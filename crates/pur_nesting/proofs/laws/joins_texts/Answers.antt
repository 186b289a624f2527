use Rattle.pur_tree.specs.Walks.{walk}
use Rattle.pur_tree.proofs.WalkLemmas.{is_joined-joined_nodes}
use Rattle.pur_nesting.specs.Nesting.{repair}
use Rattle.pur_nesting.proofs.laws.joins_texts.Goals as goal

pub returns : goal.returns
returns c = λ p nodes. is_joined-joined_nodes (walk (repair p) nodes)
