use Rattle.pur_lexer.proofs.DistinctLemmas.{tokens_distinct}
use Rattle.pur_lexer.proofs.laws.tokens_are_distinct.Goals as goal

pub returns : goal.returns
returns c = tokens_distinct
