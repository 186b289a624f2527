use Rattle.pur_foreign.proofs.StayLemmas.{tokens-stay}
use Rattle.pur_foreign.proofs.laws.permitted_stays.Goals as goal

pub returns : goal.returns
returns c = tokens-stay
