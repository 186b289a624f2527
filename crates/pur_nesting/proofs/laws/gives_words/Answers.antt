use Rattle.pur_nesting.proofs.JoinedWordsLemmas.{HaveWords-nested}
use Rattle.pur_nesting.proofs.laws.gives_words.Goals as goal

pub returns : goal.returns
returns c = HaveWords-nested
