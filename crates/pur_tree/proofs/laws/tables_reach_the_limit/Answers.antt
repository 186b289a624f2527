use Rattle.std.proofs.Common.{◌+◌, ◌≤◌, ◌&&◌, Bool, true, false, refl, arith}
use Rattle.std.specs.Prelude.{if◌then◌else◌}
use Rattle.pur_names.specs.declared.elements.Element.TheVariants.{Tr}
use Rattle.pur_names.specs.Elements.{same_element}
use Rattle.pur_tree.proofs.laws.tables_reach_the_limit.Goals as goal

-- what stands in the innermost cell would pass the limit, whatever it is
too_deep : (b : Bool) → 128 + (if b && false then 2 else 1) ≤ 128 → ⊥
too_deep true h = omega (arith, h)
too_deep false h = omega (arith, h)

pub returns : goal.returns
returns c = (refl, λ e fits. too_deep (same_element e Tr) fits)
