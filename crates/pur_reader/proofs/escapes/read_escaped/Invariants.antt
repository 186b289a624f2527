-- What was read is written as what was passed, and where the whole is written so, the rest is.
use Rattle.std.proofs.Common.{◌≡◌, ◌++◌, true, length}
use denote.Text.{Utf8}
use denote.Shadow.{shadow}
use Rattle.std.specs.List.{list_all}
use Rattle.std.specs.Str.{chars}
use Rattle.pur_text.specs.Characters.{is_allowed}
use Rattle.pur_text.specs.Texts.{text_of}
use Rattle.pur_reader.specs.Private.Escaping.{written_where, IsWritten}
use Rattle.pur_reader.proofs.escapes.read_escaped.Given as goal

abbrev pub invariant-reading : goal.invariant-reading
invariant-reading l = record {
  utf8 : shadow (Utf8 l.rest);
  is : written_where l.in_value (text_of l.read) ++ chars l.rest ≡ chars l.fn.text;
  allowed : list_all is_allowed (text_of l.read) ≡ true;
  left : IsWritten l.in_value (chars l.fn.text) → IsWritten l.in_value (chars l.rest);
}

abbrev pub decreases-reading : goal.decreases-reading
decreases-reading l = length l.rest
