use Rattle.std.proofs.Common.{◌≡◌, ◌++◌, length}
use Rattle.pur_text.specs.Escapes.{escaped}
use Rattle.pur_writer.proofs.escaping.push_escaped.Given as goal

abbrev pub invariant-escaping : goal.invariant-escaping
invariant-escaping l = l.out.items ++ escaped l.rest ≡ l.initial.out.items ++ escaped l.fn.text

abbrev pub decreases-escaping : goal.decreases-escaping
decreases-escaping l = length l.rest
