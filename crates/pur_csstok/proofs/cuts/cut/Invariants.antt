use Rattle.std.proofs.Common.{◌≡◌, ◌+◌, ◌-◌, ◌≤◌, length, drop}
use Rattle.std.specs.Str.{chars}
use denote.Text.{Utf8}
use denote.Shadow.{shadow}
use Rattle.pur_csstok.proofs.CutLemmas.{IsScanned}
use Rattle.pur_csstok.proofs.cuts.cut.Given as goal

-- what is left is the end of the text, and no cut was found before it
abbrev pub invariant-scanning : goal.invariant-scanning
invariant-scanning l = record {
  utf8 : shadow (Utf8 l.rest);
  end : drop (length l.fn.text - length l.rest) l.fn.text ≡ l.rest;
  depth : l.nesting.depth + length l.rest ≤ length l.fn.text;
  scanned : IsScanned l.fn.separator (chars l.fn.text) l.nesting (chars l.rest);
}

abbrev pub decreases-scanning : goal.decreases-scanning
decreases-scanning l = length l.rest
