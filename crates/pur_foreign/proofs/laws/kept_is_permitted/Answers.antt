use Rattle.pur_foreign.proofs.ShownLemmas.{kept_is_shown}
use Rattle.pur_foreign.proofs.laws.kept_is_permitted.Goals as goal

pub returns : goal.returns
returns c = kept_is_shown
