use Rattle.std.proofs.Common.{◌≡◌, ◌++◌, drop, map}
use Rattle.pur_text.specs.Texts.{text_of}
use Rattle.pur_cssprops.specs.Forms.{readings}
use Rattle.pur_cssprops.proofs.sequences.readings.Given as goal

-- what was read, and what the words that are left give, are what all give
abbrev pub invariant-loop-word : goal.invariant-loop-word
invariant-loop-word l =
    map text_of l.values.items ++ readings l.fn.form (map text_of (drop l.word-index l.fn.words)) ≡ readings l.fn.form (map text_of l.fn.words)
