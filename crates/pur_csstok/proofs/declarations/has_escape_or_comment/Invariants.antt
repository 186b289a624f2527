use Rattle.std.proofs.Common.{◌≡◌, length}
use Rattle.std.specs.Str.{chars}
use denote.Text.{Utf8}
use denote.Shadow.{shadow}
use Rattle.pur_csstok.specs.Declarations.{has_escape_or_comment}
use Rattle.pur_csstok.proofs.declarations.has_escape_or_comment.Given as goal

-- what is left answers as the whole
abbrev pub invariant-looking : goal.invariant-looking
invariant-looking l = shadow (Utf8 l.rest) × (has_escape_or_comment (chars l.rest) ≡ has_escape_or_comment (chars l.fn.text))

abbrev pub decreases-looking : goal.decreases-looking
decreases-looking l = length l.rest
