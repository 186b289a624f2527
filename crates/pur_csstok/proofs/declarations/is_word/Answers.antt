use Rattle.std.proofs.Common.{◌∙◌, ap}
use Rattle.std.specs.Prelude.{not}
use Rattle.pur_laws.proofs.Cases.{empty-chars}
use Rattle.pur_csstok.proofs.declarations.is_word.Goals as goal

pub returns : goal.returns
returns c = ap not (c.is_empty.ensures ∙ empty-chars c.args.piece.now c.utf8.piece)
