use Rattle.std.proofs.Common.{◌≡◌, ◌++◌, ◌∷◌, length}
use Rattle.std.specs.List.{flat_map}
use Rattle.pur_text.specs.Texts.{text_of}
use Rattle.pur_sheet.specs.Selectors.{chain_text, compound_text, words_of}
use Rattle.pur_sheet.proofs.selectors.push_chain.Given as goal

-- what was written, and the words that are left with a space before each, are the whole
abbrev pub invariant-writing : goal.invariant-writing
invariant-writing l = text_of l.text ++ flat_map (λ word. 0x20 ∷ compound_text word) (words_of l.rest) ≡ text_of l.fn.text ++ chain_text (words_of l.fn.chain)

abbrev pub decreases-writing : goal.decreases-writing
decreases-writing l = length l.rest
