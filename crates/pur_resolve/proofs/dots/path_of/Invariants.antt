use Rattle.std.proofs.Common.{◌≡◌, ◌++◌, drop, string_bytes}
use Rattle.pur_resolve.specs.Dots.{path_of}
use Rattle.pur_resolve.specs.Private.Segments.{texts}
use Rattle.pur_resolve.proofs.dots.path_of.Given as goal

-- what is written, and the path of the rest
abbrev pub invariant-loop-segment : goal.invariant-loop-segment
invariant-loop-segment l = string_bytes l.path ++ path_of (texts (drop l.segment-index l.segments)) ≡ path_of (texts l.fn.segments)
