use Rattle.std.proofs.Common.{◌≡◌, length}
use Rattle.std.specs.List.{list_all, prefix_len}
use Rattle.pur_sheet.specs.Selectors.{compound_of, is_part}
use Rattle.pur_sheet.specs.Private.Words.{is_no_mark}
use Rattle.pur_sheet.proofs.compounds.are_parts.Given as goal

-- what is left are parts, and answers as the whole
abbrev pub invariant-reading : goal.invariant-reading
invariant-reading l =
    (prefix_len is_no_mark l.rest ≡ 0) × (list_all is_part (compound_of l.rest).parts ≡ list_all is_part (compound_of l.fn.text).parts)

abbrev pub decreases-reading : goal.decreases-reading
decreases-reading l = length l.rest
