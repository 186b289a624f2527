use Rattle.pur_models.proofs.WordLemmas.{any_letters}
use Rattle.pur_models.proofs.laws.any_letters_are_a_word.Goals as goal

pub returns : goal.returns
returns c = any_letters
