use Rattle.pur_entities.proofs.ReferenceLemmas.{decoded-plain, decoded-same}
use Rattle.pur_entities.proofs.laws.plain_is_kept.Goals as goal

pub returns : goal.returns
returns c = record { run = decoded-plain; whole = decoded-same }
