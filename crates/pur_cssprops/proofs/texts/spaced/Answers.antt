use Rattle.std.proofs.Common.{◌∙◌, ap}
use Rattle.std.specs.Str.{chars}
use Rattle.pur_cssprops.proofs.TextLemmas.{chars-spaced}
use Rattle.pur_cssprops.proofs.texts.spaced.Goals as goal

pub returns : goal.returns
returns c = ap chars c.in_ok-text.ensures.ok ∙ chars-spaced c.args.words.now
