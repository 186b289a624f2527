use Rattle.std.proofs.Common.{◌∙◌, ◌++◌, ap}
use Rattle.std.specs.Str.{chars}
use Rattle.std.proofs.lemmas.Str.{chars-nil}
use Rattle.pur_sheet.specs.Styles.{styles_of}
use Rattle.pur_sheet.proofs.bodies.StyleSheets.new.Goals as goal

pub returns : goal.returns
returns c more = ap (λ text. text ++ styles_of more) (ap chars c.new.ensures.bytes ∙ chars-nil)
