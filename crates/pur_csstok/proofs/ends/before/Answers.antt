use Rattle.std.proofs.Common.{sym}
use Rattle.pur_csstok.proofs.TextLemmas.{before_some, before_none}
use Rattle.pur_csstok.proofs.ends.before.Goals as goal

pub returns-in-Some-clause-rest : goal.returns-in-Some-clause-rest
returns-in-Some-clause-rest c = sym (before_some c.args.last c.args.text.now c.in-Some.rest.now c.ranges.last.0 c.utf8.text c.in-Some.ensures.cases)

pub returns-in-None-clause-rest : goal.returns-in-None-clause-rest
returns-in-None-clause-rest c = sym (before_none c.args.last c.args.text.now c.utf8.text c.in-None.ensures.cases)
