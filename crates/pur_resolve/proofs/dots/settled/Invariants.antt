use Rattle.std.proofs.Common.{◌≡◌, false, drop}
use Rattle.pur_resolve.specs.Dots.{settled}
use Rattle.pur_resolve.specs.Private.Segments.{texts, settled_on}
use Rattle.pur_resolve.proofs.dots.settled.Given as goal

-- what stays now, and what the rest makes of it
abbrev pub invariant-loop-segment : goal.invariant-loop-segment
invariant-loop-segment l =
    settled_on (texts l.kept.items) l.dotted (texts (drop l.segment-index l.segments)) ≡ (settled false (texts l.fn.segments)).stays
