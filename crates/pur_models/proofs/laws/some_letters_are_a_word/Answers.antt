use Rattle.pur_models.proofs.WordLemmas.{some_letters}
use Rattle.pur_models.proofs.laws.some_letters_are_a_word.Goals as goal

pub returns : goal.returns
returns c = some_letters
