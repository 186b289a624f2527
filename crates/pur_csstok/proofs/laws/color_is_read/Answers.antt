use Rattle.pur_csstok.proofs.ColorLaws.{color-again}
use Rattle.pur_csstok.proofs.laws.color_is_read.Goals as goal

pub returns : goal.returns
returns c = color-again
