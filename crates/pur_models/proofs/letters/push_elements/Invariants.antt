use Rattle.std.proofs.Common.{◌≡◌, ◌++◌, take}
use Rattle.pur_modules.specs.Expressions.{elems}
use Rattle.pur_models.proofs.letters.push_elements.Given as goal

abbrev pub invariant-loop-element : goal.invariant-loop-element
invariant-loop-element l = l.letters.items ≡ l.initial.letters.items ++ elems (take l.element-index l.elements)
