use Rattle.pur_inject.proofs.BothLemmas.{paragraphs-once}
use Rattle.pur_inject.proofs.laws.paragraphs_once.Goals as goal

pub returns : goal.returns
returns c = paragraphs-once
