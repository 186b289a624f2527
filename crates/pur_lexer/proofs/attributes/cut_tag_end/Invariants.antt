-- The attributes that stand, and then those of the rest, are those of the whole tag.
use Rattle.std.proofs.Common.{◌≡◌, ◌≤◌, length, option_map}
use denote.Text.{Utf8}
use denote.Shadow.{shadow}
use Rattle.std.specs.Str.{chars}
use Rattle.pur_lexer.specs.Tags.{tag_end_behind, tag_end}
use Rattle.pur_lexer.specs.Private.Readings.{tag_end_after}
use Rattle.pur_lexer.proofs.attributes.cut_tag_end.Given as goal

abbrev pub invariant-attributes : goal.invariant-attributes
invariant-attributes l = shadow (Utf8 l.rest) × (length l.rest ≤ length l.fn.text) × (option_map (tag_end_after l.attrs) (tag_end_behind 0 (chars l.rest)) ≡ tag_end (chars l.fn.text))

abbrev pub decreases-attributes : goal.decreases-attributes
decreases-attributes l = length l.rest
