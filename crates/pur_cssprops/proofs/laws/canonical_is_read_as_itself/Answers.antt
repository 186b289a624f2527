use Rattle.pur_cssprops.proofs.FormLaws.{all-stay}
use Rattle.pur_cssprops.proofs.NumberLemmas.{number-characters}
use Rattle.pur_cssprops.proofs.laws.canonical_is_read_as_itself.Goals as goal

pub returns : goal.returns
returns c =
    all-stay
    (record {
      number = c.number_is_read.ensures;
      length = c.length_is_read.ensures;
      color = c.color_is_read.ensures;
      color_digits = c.colors_are_digits.ensures;
      number_atom = c.values_are_atoms.ensures.number;
      length_atom = c.values_are_atoms.ensures.length;
      color_atom = c.values_are_atoms.ensures.color;
      unitless = number-characters;
      plain = c.atom_is_word.ensures;
      words = c.words_are_read.ensures;
    })
    (record { url = c.url_is_read.ensures; settles = c.reading_settles.ensures; canonical = c.text_is_canonical.ensures })
    c.families_are_read.ensures
