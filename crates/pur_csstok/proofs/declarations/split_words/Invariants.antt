use Rattle.std.proofs.Common.{◌≡◌, ◌++◌, length, map}
use Rattle.std.specs.Str.{chars}
use denote.Text.{Utf8}
use denote.Shadow.{shadow}
use Rattle.pur_csstok.specs.Declarations.{words_of}
use Rattle.pur_text.specs.Texts.{text_of}
use Rattle.pur_csstok.proofs.declarations.split_words.Given as goal

-- what was read, and what is still to be read, are the whole
abbrev pub invariant-splitting : goal.invariant-splitting
invariant-splitting l =
    shadow (Utf8 l.rest) × (map text_of l.words.items ++ words_of (chars l.rest) ≡ words_of (chars l.fn.value))

abbrev pub decreases-splitting : goal.decreases-splitting
decreases-splitting l = length l.rest
