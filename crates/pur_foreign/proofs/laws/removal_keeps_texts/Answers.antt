use Rattle.pur_foreign.proofs.ImageLemmas.{count-kept}
use Rattle.pur_foreign.proofs.laws.removal_keeps_texts.Goals as goal

pub returns : goal.returns
returns c = count-kept
