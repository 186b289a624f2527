use Rattle.pur_resolve.proofs.ResolvingLemmas.{has_scheme, settles}
use Rattle.pur_resolve.proofs.laws.resolving_settles.Goals as goal

pub returns-clause-absolute : goal.returns-clause-absolute
returns-clause-absolute c = has_scheme

pub returns-clause-again : goal.returns-clause-again
returns-clause-again c = settles
