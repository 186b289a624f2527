use Rattle.pur_nesting.proofs.FormLemmas.{all_words_nested}
use Rattle.pur_nesting.proofs.laws.gives_all_words.Goals as goal

pub returns : goal.returns
returns c = all_words_nested
