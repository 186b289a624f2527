use Rattle.pur_cssprops.proofs.NumberLemmas.{number-characters}
use Rattle.pur_cssprops.proofs.StyleLaws.{styles-stay}
use Rattle.pur_cssprops.proofs.laws.styles_are_read_as_themselves.Goals as goal

pub returns : goal.returns
returns c =
    styles-stay
    (record {
      number = c.number_is_read.ensures;
      length = c.length_is_read.ensures;
      color = c.color_is_read.ensures;
      color_digits = c.colors_are_digits.ensures;
      number_atom = c.values_are_atoms.ensures.number;
      length_atom = c.values_are_atoms.ensures.length;
      color_atom = c.values_are_atoms.ensures.color;
      unitless = number-characters;
      plain = c.atom_is_word.ensures;
      words = c.words_are_read.ensures;
    })
    (record {
      atoms = c.atoms_are_clean.ensures;
      families = c.families_are_clean.ensures;
      urls = c.urls_are_clean.ensures;
      canonical = c.text_is_canonical.ensures;
      comment = c.no_comment_appears.ensures.raw;
    })
    c.canonical_is_read_as_itself.ensures
    c.declarations_are_read.ensures
