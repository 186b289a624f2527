use Rattle.std.proofs.Common.{◌∙◌, refl, sym}
use Rattle.std.specs.Prelude.{codes}
use Rattle.std.specs.Str.{bytes_eq}
use Rattle.pur_laws.proofs.Cases.{test-chars}
use Rattle.pur_values.proofs.SolidLemmas.{same-ascii}
use Rattle.pur_values.proofs.numbers.is_percent_sign.Goals as goal

pub returns : goal.returns
returns c =
    c.eq.ensures
    ∙ sym (test-chars (λ t. bytes_eq t (codes "%")) (λ t is. same-ascii (codes "%") t refl is) c.args.unit.now c.utf8.unit)
