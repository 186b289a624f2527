use Rattle.pur_entities.proofs.ReferenceLemmas.{named-allowed}
use Rattle.pur_entities.proofs.laws.named_is_allowed.Goals as goal

pub returns : goal.returns
returns c = named-allowed
