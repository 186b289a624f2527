use Rattle.std.proofs.Common.{◌≡◌, ◌++◌, take}
use Rattle.pur_text.specs.Texts.{text_of}
use Rattle.pur_sheet.proofs.texts.push_characters.Given as goal

-- what was written so far
abbrev pub invariant-loop-c : goal.invariant-loop-c
invariant-loop-c l = text_of l.text ≡ text_of l.fn.text ++ take l.c-index l.characters
