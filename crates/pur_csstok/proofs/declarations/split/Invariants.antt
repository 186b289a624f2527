use Rattle.std.proofs.Common.{◌≡◌, ◌++◌, length}
use Rattle.std.specs.Str.{chars}
use denote.Text.{Utf8}
use denote.Shadow.{shadow}
use Rattle.pur_csstok.specs.Declarations.{declarations_of}
use Rattle.pur_csstok.specs.Written.{pairs_of}
use Rattle.pur_csstok.proofs.declarations.split.Given as goal

-- what was read, and what is still to be read, are the whole
abbrev pub invariant-splitting : goal.invariant-splitting
invariant-splitting l =
    shadow (Utf8 l.rest) × (pairs_of l.declarations.items ++ declarations_of (chars l.rest) ≡ declarations_of (chars l.fn.style))

abbrev pub decreases-splitting : goal.decreases-splitting
decreases-splitting l = length l.rest
