use Rattle.std.proofs.Common.{◌≡◌, ◌≤◌, drop, option_map}
use Rattle.pur_entities.specs.References.{numeral}
use Rattle.pur_entities.proofs.NumeralLemmas.{greatest, cut_off, numeral_after}
use Rattle.pur_entities.proofs.references.numeral.Given as goal

-- the digits that are left, behind the number so far, write the whole
abbrev pub invariant-loop-byte : goal.invariant-loop-byte
invariant-loop-byte l = record {
  small : l.number ≤ greatest;
  whole : numeral_after l.fn.radix l.number (drop l.byte-index l.fn.text) ≡ option_map cut_off (numeral l.fn.radix l.fn.text);
}
