use Rattle.pur_nesting.proofs.ValidLemmas.{valid_letters}
use Rattle.pur_nesting.proofs.laws.words_are_letters.Goals as goal

pub returns : goal.returns
returns c = valid_letters
