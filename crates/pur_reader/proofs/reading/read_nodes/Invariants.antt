-- What was read and the rest are the text, and where the text is a spelling, the rest is what is left of it.
use Rattle.std.proofs.Common.{◌≡◌, ◌++◌, [], true, length}
use denote.Text.{Utf8}
use denote.Shadow.{shadow}
use Rattle.std.specs.List.{list_all}
use Rattle.std.specs.Str.{chars}
use Rattle.pur_tree.specs.Building.{written_of, opened_of}
use Rattle.pur_reader.specs.Private.Reading.{tokens_text, is_spellable_token, Left, IsReady}
use Rattle.pur_reader.proofs.reading.read_nodes.Given as goal

abbrev pub invariant-reading : goal.invariant-reading
invariant-reading l = record {
  utf8 : shadow (Utf8 l.rest);
  ready : IsReady l.opened.items l.builder;
  is : tokens_text (written_of l.builder) ++ chars l.rest ≡ chars l.fn.text;
  good : list_all is_spellable_token (written_of l.builder) ≡ true;
  left : Left [] (chars l.fn.text) → Left (opened_of l.builder) (chars l.rest);
}

abbrev pub decreases-reading : goal.decreases-reading
decreases-reading l = length l.rest
