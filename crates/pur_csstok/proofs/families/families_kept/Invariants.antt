use Rattle.std.proofs.Common.{◌≡◌, ◌++◌, length, map}
use Rattle.std.specs.Str.{chars}
use denote.Text.{Utf8}
use denote.Shadow.{shadow}
use Rattle.pur_csstok.specs.Families.{families_kept}
use Rattle.pur_text.specs.Texts.{text_of}
use Rattle.pur_csstok.proofs.families.families_kept.Given as goal

-- what was read, and what is still to be read, are the whole
abbrev pub invariant-reading : goal.invariant-reading
invariant-reading l =
    shadow (Utf8 l.rest) × (map text_of l.families.items ++ families_kept (chars l.rest) ≡ families_kept (chars l.fn.raw))

abbrev pub decreases-reading : goal.decreases-reading
decreases-reading l = length l.rest
