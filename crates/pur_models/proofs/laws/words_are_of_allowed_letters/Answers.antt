use Rattle.pur_models.proofs.WordLemmas.{words_are_allowed}
use Rattle.pur_models.proofs.laws.words_are_of_allowed_letters.Goals as goal

pub returns : goal.returns
returns c = words_are_allowed
