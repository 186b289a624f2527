use Rattle.std.specs.Str.{chars}
use Rattle.pur_cssprops.proofs.AllowedLaws.{styles-printable}
use Rattle.pur_cssprops.proofs.NumberLemmas.{number-characters}
use Rattle.pur_cssprops.proofs.ShapeLaws.{CleanLaws}
use Rattle.pur_cssprops.proofs.StyleLaws.{style-clean}
use Rattle.pur_cssprops.proofs.WordLaws.{AtomLaws}
use Rattle.pur_cssprops.proofs.laws.styles_are_clean.Goals as goal

pub returns : goal.returns
returns c rules rule raw out valid e =
    let atoms : AtomLaws = record {
      number = c.number_is_read.ensures;
      length = c.length_is_read.ensures;
      color = c.color_is_read.ensures;
      color_digits = c.colors_are_digits.ensures;
      number_atom = c.values_are_atoms.ensures.number;
      length_atom = c.values_are_atoms.ensures.length;
      color_atom = c.values_are_atoms.ensures.color;
      unitless = number-characters;
      plain = c.atom_is_word.ensures;
      words = c.words_are_read.ensures;
    } in
    let clean : CleanLaws = record {
      atoms = c.atoms_are_clean.ensures;
      families = c.families_are_clean.ensures;
      urls = c.urls_are_clean.ensures;
      canonical = c.text_is_canonical.ensures;
      comment = c.no_comment_appears.ensures.raw;
    } in
    style-clean atoms clean rules rule raw out valid e (styles-printable atoms c.text_is_canonical.ensures rules rule (chars raw) out e)
