use Rattle.pur_inject.proofs.ParagraphKeepLemmas.{counts-with_paragraphs}
use Rattle.pur_inject.proofs.laws.paragraphs_keep_counts.Goals as goal

pub returns : goal.returns
returns c = λ rules c n. counts-with_paragraphs c rules n
