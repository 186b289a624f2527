-- The attributes that were read and the rest are the text, and where the text is the rest of a tag, the rest is, behind them.
use Rattle.std.proofs.Common.{◌≡◌, ◌++◌, [], true, length}
use denote.Text.{Utf8}
use denote.Shadow.{shadow}
use Rattle.std.specs.Str.{chars}
use Rattle.pur_tree.specs.Spelling.{attributes_text, are_spellable}
use Rattle.pur_reader.specs.Private.Tags.{IsTagRest}
use Rattle.pur_reader.proofs.tags.read_attributes.Given as goal

abbrev pub invariant-reading : goal.invariant-reading
invariant-reading l = record {
  utf8 : shadow (Utf8 l.rest);
  is : attributes_text l.attrs ++ chars l.rest ≡ chars l.fn.text;
  good : are_spellable l.attrs ≡ true;
  left : IsTagRest [] (chars l.fn.text) → IsTagRest l.attrs (chars l.rest);
}

abbrev pub decreases-reading : goal.decreases-reading
decreases-reading l = length l.rest
