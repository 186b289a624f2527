use Rattle.std.proofs.Common.{◌∙◌, ◌+◌, ◌*◌, min, ap, arith}
use Rattle.pur_entities.proofs.NumeralLemmas.{greatest, cut_off, digit_read_at, digits_end}
use Rattle.pur_entities.proofs.references.numeral.Goals as goal

pub loop-byte-preserved : goal.loop-byte-preserved
loop-byte-preserved c = record {
  small = omega (arith, c.saturating_add-number.ensures);
  whole = digit_read_at c.args.radix c.loop-byte.number c.loop-byte.byte-index c.from.result c.saturating_add-number.result c.args.text.now
      c.requires.at_least c.loop-byte-test.true c.from.ensures c.in_ok-digit.ensures.value.0
      (c.saturating_add-number.ensures ∙ ap (λ m. min (m + c.in_ok-digit.digit) greatest) c.saturating_mul.ensures
      ∙ ap (λ d. cut_off (cut_off (c.loop-byte.number * c.args.radix) + d)) c.in_ok-digit.ensures.value.1)
      _ c.loop-byte.invariant.whole;
}

pub returns : goal.returns
returns c = digits_end c.args.radix c.loop-byte.number c.loop-byte.byte-index c.args.text.now c.loop-byte.invariant.small c.loop-byte-test.false _ c.loop-byte.invariant.whole
