use Rattle.pur_tree.proofs.SpellingLemmas.{spelling-spelled}
use Rattle.pur_tree.proofs.laws.spelled_as_itself.Goals as goal

pub returns : goal.returns
returns c n text s = spelling-spelled s
