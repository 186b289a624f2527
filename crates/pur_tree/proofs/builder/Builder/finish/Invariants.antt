use Rattle.std.proofs.Common.{◌≡◌, ◌++◌, length}
use Rattle.pur_tree.specs.Building.{written_of, opened_of, closings_of}
use Rattle.pur_tree.proofs.builder.Builder.finish.Given as goal

abbrev pub invariant-closing : goal.invariant-closing
invariant-closing l = written_of l.self ++ closings_of (opened_of l.self) ≡ written_of l.initial.self ++ closings_of (opened_of l.initial.self)

abbrev pub decreases-closing : goal.decreases-closing
decreases-closing l = length (opened_of l.self)
