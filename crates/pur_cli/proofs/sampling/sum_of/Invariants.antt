-- The total so far is the sum of the bytes so far, none of which passes 255.
use Rattle.std.proofs.Common.{◌≡◌, ◌*◌, ◌≤◌, take}
use Rattle.std.specs.Prelude.{sum}
use Rattle.pur_cli.proofs.sampling.sum_of.Given as goal

abbrev pub invariant-loop-byte : goal.invariant-loop-byte
invariant-loop-byte l = record {
  so_far : l.total ≡ sum (take l.byte-index l.text);
  small : l.total ≤ 255 * l.byte-index;
}
