use Rattle.std.proofs.Common.{◌≡◌, ◌≤◌, ◌-◌, length, take}
use Rattle.pur_io.specs.Taken.{taken_more}
use Rattle.pur_commands.proofs.output.write_all.Given as goal

abbrev pub invariant-writing : goal.invariant-writing
invariant-writing g l = let sink = g.O.Sink in record {
  within : l.at ≤ length l.text;
  taken : sink.taken l.out ≡ taken_more (sink.taken l.fn.out) (take l.at l.text);
  kept : sink.faults l.out ≡ sink.faults l.fn.out;
}

abbrev pub decreases-writing : goal.decreases-writing
decreases-writing g l = length l.text - l.at
