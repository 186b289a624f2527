use Rattle.std.proofs.Common.{◌≡◌, ◌++◌, length}
use Rattle.pur_text.specs.Texts.{text_of}
use Rattle.pur_sheet.specs.Selectors.{selectors_text}
use Rattle.pur_sheet.proofs.selectors.push_selectors.Given as goal

-- what was written, and what is still to be written, are the whole
abbrev pub invariant-writing : goal.invariant-writing
invariant-writing l = text_of l.text ++ selectors_text l.fn.scope l.rest ≡ text_of l.fn.text ++ selectors_text l.fn.scope l.fn.prelude

abbrev pub decreases-writing : goal.decreases-writing
decreases-writing l = length l.rest
