use Rattle.pur_wellform.proofs.TreeFacts.{writes-tree, writes-joined}
use Rattle.pur_wellform.proofs.StepFacts.{run_writes}
use Rattle.pur_wellform.proofs.laws.closed_stands.Goals as goal

pub returns : goal.returns
returns c = λ rules tags h. writes-tree (writes-joined (run_writes rules tags h))
