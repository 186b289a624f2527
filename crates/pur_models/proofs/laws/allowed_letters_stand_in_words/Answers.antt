use Rattle.pur_models.proofs.StandingLemmas.{allowed_letters_stand}
use Rattle.pur_models.proofs.laws.allowed_letters_stand_in_words.Goals as goal

pub returns : goal.returns
returns c = allowed_letters_stand
