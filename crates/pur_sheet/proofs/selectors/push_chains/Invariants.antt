use Rattle.std.proofs.Common.{◌≡◌, ◌++◌, length}
use Rattle.pur_text.specs.Texts.{text_of}
use Rattle.pur_sheet.specs.Selectors.{chains_of, chains_text}
use Rattle.pur_sheet.proofs.selectors.push_chains.Given as goal

-- what was written, and what is still to be written, are the whole
abbrev pub invariant-writing : goal.invariant-writing
invariant-writing l = text_of l.text ++ chains_text (chains_of l.rest) ≡ text_of l.fn.text ++ chains_text (chains_of l.fn.selector)

abbrev pub decreases-writing : goal.decreases-writing
decreases-writing l = length l.rest
