use Rattle.std.proofs.Common.{◌≡◌, ◌++◌, [], length, List, string_bytes}
use Rattle.std.specs.Str.{chars}
use denote.Text.{Utf8}
use denote.Shadow.{shadow}
use Rattle.pur_inject.specs.Paragraphs.{with_blank_lines}
use Rattle.pur_inject.specs.Private.Standing.{going_on}
use Rattle.pur_inject.specs.Signs.{Sign, letters}
use Rattle.pur_inject.proofs.paragraphs.Paragraphs.end_text.Given as goal

abbrev pub invariant-cutting : goal.invariant-cutting
invariant-cutting l = record {
  utf8 : shadow (Utf8 l.rest);
  over : string_bytes l.self.text ≡ [];
  whole : (more : List Sign) → going_on l.doctype l.self (with_blank_lines (letters (chars l.rest)) ++ more)
      ≡ going_on l.doctype l.fn.self (with_blank_lines (letters (chars (string_bytes l.fn.self.text))) ++ more);
}

abbrev pub decreases-cutting : goal.decreases-cutting
decreases-cutting l = length l.rest
