use Rattle.pur_csstok.proofs.NumberLaws.{number-again}
use Rattle.pur_csstok.proofs.laws.number_is_read.Goals as goal

pub returns : goal.returns
returns c = number-again
