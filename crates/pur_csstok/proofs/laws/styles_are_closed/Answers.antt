use Rattle.pur_csstok.proofs.DeclarationLaws.{declarations-closed, declarations-plain}
use Rattle.pur_csstok.proofs.laws.styles_are_closed.Goals as goal

pub returns : goal.returns
returns c = record { closed = declarations-closed; plain = declarations-plain }
