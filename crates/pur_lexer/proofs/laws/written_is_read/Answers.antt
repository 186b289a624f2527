use Rattle.pur_lexer.proofs.WrittenLemmas.{tokens-written}
use Rattle.pur_lexer.proofs.laws.written_is_read.Goals as goal

pub returns : goal.returns
returns c = tokens-written
