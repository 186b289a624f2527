use Rattle.pur_wellform.proofs.StepFacts.{run_pays}
use Rattle.pur_wellform.proofs.laws.pays_little.Goals as goal

pub returns : goal.returns
returns c = run_pays
