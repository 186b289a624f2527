-- The text so far is the sample of the pieces so far.
use Rattle.std.proofs.Common.{◌≡◌, string_bytes}
use Rattle.pur_commands.specs.Samples.{sample_of}
use Rattle.pur_commands.proofs.samples.sample.Given as goal

abbrev pub invariant-loop-number : goal.invariant-loop-number
invariant-loop-number l = string_bytes l.text ≡ sample_of l.number
