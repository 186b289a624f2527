use Rattle.pur_tree.proofs.WalkLemmas.{is_joined-joined_nodes, joined_nodes-same, count_in_text-joined_nodes}
use Rattle.pur_tree.proofs.HoldsLemmas.{spellable-joined_nodes, IsForest-joined_nodes}
use Rattle.pur_tree.proofs.laws.joins_texts.Goals as goal

pub returns : goal.returns
returns c n = record {
  joined = is_joined-joined_nodes n;
  same = joined_nodes-same n;
  counts = λ c. count_in_text-joined_nodes c n;
  spells = spellable-joined_nodes n;
  forest = IsForest-joined_nodes n;
}
