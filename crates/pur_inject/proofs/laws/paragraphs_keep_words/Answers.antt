use Rattle.pur_inject.proofs.WordLemmas.{words-with_paragraphs}
use Rattle.pur_inject.proofs.laws.paragraphs_keep_words.Goals as goal

pub returns : goal.returns
returns c = words-with_paragraphs
