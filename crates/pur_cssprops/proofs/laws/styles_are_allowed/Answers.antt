use Rattle.pur_cssprops.proofs.AllowedLaws.{styles-allowed}
use Rattle.pur_cssprops.proofs.NumberLemmas.{number-characters}
use Rattle.pur_cssprops.proofs.laws.styles_are_allowed.Goals as goal

pub returns : goal.returns
returns c =
    styles-allowed
    (record {
      number = c.number_is_read.ensures;
      length = c.length_is_read.ensures;
      color = c.color_is_read.ensures;
      color_digits = c.colors_are_digits.ensures;
      number_atom = c.values_are_atoms.ensures.number;
      length_atom = c.values_are_atoms.ensures.length;
      color_atom = c.values_are_atoms.ensures.color;
      unitless = number-characters;
      plain = c.atom_is_word.ensures;
      words = c.words_are_read.ensures;
    })
    c.text_is_canonical.ensures
