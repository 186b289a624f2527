use Rattle.std.proofs.Common.{◌∙◌}
use Rattle.pur_laws.proofs.Texts.{bytes_eq-chars}
use Rattle.pur_reader.proofs.values.is_same.Goals as goal

pub returns : goal.returns
returns c = c.eq.ensures ∙ bytes_eq-chars c.args.first.now c.args.second.now c.utf8.first c.utf8.second
