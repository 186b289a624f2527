use Rattle.std.proofs.Common.{◌≡◌, ◌++◌, length, string_bytes}
use denote.Text.{Utf8}
use denote.Shadow.{shadow}
use Rattle.std.specs.Str.{chars}
use Rattle.pur_entities.specs.References.{decoded}
use Rattle.pur_entities.proofs.references.decode_onto.Given as goal

abbrev pub invariant-decoding : goal.invariant-decoding
invariant-decoding l = shadow (Utf8 l.rest) × (chars (string_bytes l.output) ++ decoded (chars l.rest) ≡ chars (string_bytes l.fn.output) ++ decoded (chars l.fn.text))

abbrev pub decreases-decoding : goal.decreases-decoding
decreases-decoding l = length l.rest
