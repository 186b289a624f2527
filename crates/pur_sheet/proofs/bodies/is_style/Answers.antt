use Rattle.std.proofs.Common.{◌∙◌, sym, refl}
use Rattle.std.specs.Prelude.{codes}
use Rattle.pur_laws.proofs.Texts.{bytes_eq-ascii}
use Rattle.pur_sheet.proofs.bodies.is_style.Goals as goal

pub returns : goal.returns
returns c = c.eq.ensures ∙ sym (bytes_eq-ascii c.args.name.now (codes "style") c.utf8.name refl)
