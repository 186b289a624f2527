use Rattle.std.proofs.Common.{◌∙◌, ap, arith}
use Rattle.std.specs.Str.{chars}
use Rattle.pur_csstok.proofs.TextLemmas.{chars-joined}
use Rattle.pur_csstok.proofs.texts.join_with_space.Goals as goal

pub returns : goal.returns
returns c = ap chars c.in_ok-text.ensures.ok ∙ chars-joined 0x20 (omega arith) c.args.texts.now
