use Rattle.pur_entities.proofs.ReferenceLemmas.{decoded-meant}
use Rattle.pur_entities.proofs.laws.reference_is_read.Goals as goal

pub returns : goal.returns
returns c = decoded-meant
