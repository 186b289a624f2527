use Rattle.pur_nesting.proofs.LetterLemmas.{letters_nested}
use Rattle.pur_nesting.proofs.laws.keeps_letters.Goals as goal

pub returns : goal.returns
returns c = letters_nested
