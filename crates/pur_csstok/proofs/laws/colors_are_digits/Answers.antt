use Rattle.pur_csstok.proofs.AtomLaws.{color-digits}
use Rattle.pur_csstok.proofs.laws.colors_are_digits.Goals as goal

pub returns : goal.returns
returns c = color-digits
