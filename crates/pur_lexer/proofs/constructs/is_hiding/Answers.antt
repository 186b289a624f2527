use Rattle.pur_lexer.proofs.ConstructLemmas.{hiding_first, hiding_second}
use Rattle.pur_lexer.proofs.constructs.is_hiding.Goals as goal

pub returns-then-eq : goal.returns-then-eq
returns-then-eq c = hiding_first c.args.name.now c.eq.result c.utf8.name c.eq.ensures c.if-eq.true

pub returns-else-eq : goal.returns-else-eq
returns-else-eq c = hiding_second c.args.name.now c.eq.result c.eq-else-eq.result c.utf8.name c.eq.ensures c.if-eq.false c.eq-else-eq.ensures
