use Rattle.pur_foreign.proofs.ImageLemmas.{neighbours-kept, some-kept}
use Rattle.pur_foreign.proofs.laws.kept_is_joined.Goals as goal

pub returns : goal.returns
returns c = record { neighbours = neighbours-kept; texts = some-kept }
