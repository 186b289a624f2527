use Rattle.std.proofs.Common.{◌≡◌, ◌+◌, ◌≤◌, length}
use Rattle.pur_sheet.specs.Selectors.{chains_of, compound_count}
use Rattle.pur_sheet.proofs.selectors.count_compounds.Given as goal

-- the compounds that were counted, and those that are left, are all of them
abbrev pub invariant-counting : goal.invariant-counting
invariant-counting l =
    (l.count + compound_count (chains_of l.rest) ≡ compound_count (chains_of l.fn.text)) × (l.count + length l.rest ≤ length l.fn.text)

abbrev pub decreases-counting : goal.decreases-counting
decreases-counting l = length l.rest
