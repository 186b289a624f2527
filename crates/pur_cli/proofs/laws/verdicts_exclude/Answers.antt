use Rattle.pur_cli.proofs.VerdictLemmas.{one_verdict}
use Rattle.pur_cli.proofs.laws.verdicts_exclude.Goals as goal

pub returns : goal.returns
returns c = one_verdict
