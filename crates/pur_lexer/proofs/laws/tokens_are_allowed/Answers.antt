use Rattle.pur_lexer.proofs.AllowedLemmas.{tokens_allowed}
use Rattle.pur_lexer.proofs.laws.tokens_are_allowed.Goals as goal

pub returns : goal.returns
returns c = tokens_allowed
