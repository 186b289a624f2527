use Rattle.std.proofs.Common.{◌∙◌, ap, option_map}
use Rattle.pur_laws.proofs.Cases.{read-chars}
use Rattle.pur_values.specs.Numbers.{numeral}
use Rattle.pur_values.proofs.NumeralLemmas.{cut_off, numeral-ascii}
use Rattle.pur_values.proofs.numbers.numeral_of.Goals as goal

pub returns : goal.returns
returns c =
    c.numeral.ensures
    ∙ ap (λ t. option_map cut_off (numeral t)) c.as_bytes.ensures.value
    ∙ ap (option_map cut_off) (read-chars numeral numeral-ascii c.args.text.now c.utf8.text)
