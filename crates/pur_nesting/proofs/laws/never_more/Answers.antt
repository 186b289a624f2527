use Rattle.pur_nesting.proofs.NeverMoreLemmas.{never_more}
use Rattle.pur_nesting.proofs.laws.never_more.Goals as goal

pub returns : goal.returns
returns c = never_more
