use Rattle.pur_attrs.proofs.StayingLemmas.{counts_stay}
use Rattle.pur_attrs.proofs.laws.keeps_counts.Goals as goal

pub returns : goal.returns
returns c = counts_stay
