use Rattle.pur_tree.proofs.SpellingLemmas.{Spells-unique}
use Rattle.pur_tree.proofs.laws.spells_at_most_one.Goals as goal

pub returns : goal.returns
returns c = Spells-unique
