use Rattle.std.proofs.Common.{◌≡◌, ◌++◌, length, filter, string_bytes}
use denote.Text.{Utf8}
use denote.Shadow.{shadow}
use Rattle.std.specs.Str.{chars}
use Rattle.pur_text.specs.Characters.{is_allowed}
use Rattle.pur_text.specs.Cleaning.{with_line_feeds}
use Rattle.pur_text.specs.Private.Feeding.{BeginsWith}
use Rattle.pur_text.proofs.cleaning.clean_onto.Given as goal

abbrev pub invariant-cleaning : goal.invariant-cleaning
invariant-cleaning l =
    shadow (Utf8 l.rest)
    × BeginsWith (string_bytes l.fn.clean) (string_bytes l.clean)
    × (chars (string_bytes l.clean) ++ filter is_allowed (with_line_feeds (chars l.rest))
    ≡ chars (string_bytes l.fn.clean) ++ filter is_allowed (with_line_feeds (chars l.fn.text)))

abbrev pub decreases-cleaning : goal.decreases-cleaning
decreases-cleaning l = length l.rest
