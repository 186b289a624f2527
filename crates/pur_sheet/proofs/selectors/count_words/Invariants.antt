use Rattle.std.proofs.Common.{◌≡◌, ◌+◌, ◌≤◌, length}
use Rattle.pur_sheet.specs.Selectors.{words_of}
use Rattle.pur_sheet.proofs.selectors.count_words.Given as goal

-- the words that were counted, and those that are left, are all of them
abbrev pub invariant-counting : goal.invariant-counting
invariant-counting l = (l.count + length (words_of l.rest) ≡ length (words_of l.fn.text)) × (l.count + length l.rest ≤ length l.fn.text)

abbrev pub decreases-counting : goal.decreases-counting
decreases-counting l = length l.rest
