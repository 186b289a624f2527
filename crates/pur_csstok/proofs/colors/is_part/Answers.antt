use Rattle.std.proofs.Common.{◌∙◌, ap, sym}
use Rattle.pur_csstok.specs.Numbers.{are_digits}
use Rattle.pur_csstok.proofs.DigitLemmas.{digits-ascii}
use Rattle.pur_laws.proofs.Cases.{test-chars}
use Rattle.pur_csstok.proofs.colors.is_part.Goals as goal

pub returns : goal.returns
returns c =
    c.are_digits.ensures ∙ ap are_digits c.as_bytes.ensures.value
    ∙ sym (test-chars are_digits digits-ascii c.trim.result.now c.trim.utf8) ∙ ap are_digits c.trim.ensures
