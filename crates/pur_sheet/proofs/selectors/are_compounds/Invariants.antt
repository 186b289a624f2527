use Rattle.std.proofs.Common.{◌≡◌, length}
use Rattle.std.specs.List.{list_all}
use Rattle.pur_sheet.specs.Selectors.{is_compound, words_of}
use Rattle.pur_sheet.proofs.selectors.are_compounds.Given as goal

-- what is left answers as the whole
abbrev pub invariant-reading : goal.invariant-reading
invariant-reading l = list_all (is_compound l.fn.settings) (words_of l.rest) ≡ list_all (is_compound l.fn.settings) (words_of l.fn.text)

abbrev pub decreases-reading : goal.decreases-reading
decreases-reading l = length l.rest
