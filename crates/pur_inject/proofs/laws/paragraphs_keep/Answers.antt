use Rattle.pur_inject.proofs.ParagraphKeepLemmas.{keeps-with_paragraphs}
use Rattle.pur_inject.proofs.laws.paragraphs_keep.Goals as goal

pub returns : goal.returns
returns c = keeps-with_paragraphs
