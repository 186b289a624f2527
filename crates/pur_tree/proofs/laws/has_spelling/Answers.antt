use Rattle.pur_tree.proofs.SpellingLemmas.{Spells-spelling}
use Rattle.pur_tree.proofs.laws.has_spelling.Goals as goal

pub returns : goal.returns
returns c = Spells-spelling
