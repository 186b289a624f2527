use Rattle.pur_commands.proofs.StreamLemmas.{took_some}
use Rattle.pur_commands.proofs.output.complain.Goals as goal

pub returns-clause-line : goal.returns-clause-line
returns-clause-line g c = took_some c.write_all.result _ _ _ c.write_all.ensures.ok c.write_all.ensures.err
