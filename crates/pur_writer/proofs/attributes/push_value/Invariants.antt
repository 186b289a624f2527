use Rattle.std.proofs.Common.{◌≡◌, ◌++◌, length}
use Rattle.pur_tree.specs.Spelling.{escaped_value}
use Rattle.pur_writer.proofs.attributes.push_value.Given as goal

abbrev pub invariant-quoting : goal.invariant-quoting
invariant-quoting l = l.out.items ++ escaped_value l.rest ≡ l.initial.out.items ++ escaped_value l.fn.value

abbrev pub decreases-quoting : goal.decreases-quoting
decreases-quoting l = length l.rest
