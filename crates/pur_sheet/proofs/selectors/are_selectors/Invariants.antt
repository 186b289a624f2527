use Rattle.std.proofs.Common.{◌≡◌, length}
use Rattle.pur_sheet.specs.Selectors.{are_selectors}
use Rattle.pur_sheet.proofs.selectors.are_selectors.Given as goal

-- what is left answers as the whole
abbrev pub invariant-reading : goal.invariant-reading
invariant-reading l = are_selectors l.fn.settings l.fn.scope l.rest ≡ are_selectors l.fn.settings l.fn.scope l.fn.prelude

abbrev pub decreases-reading : goal.decreases-reading
decreases-reading l = length l.rest
