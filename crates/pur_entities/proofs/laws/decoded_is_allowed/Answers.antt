use Rattle.pur_entities.proofs.ReferenceLemmas.{decoded-allowed}
use Rattle.pur_entities.proofs.laws.decoded_is_allowed.Goals as goal

pub returns : goal.returns
returns c = decoded-allowed
