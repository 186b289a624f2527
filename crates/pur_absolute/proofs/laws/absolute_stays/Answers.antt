-- Each value that is absolute is its own reading, has a scheme, is allowed, and is left as it is.
use Rattle.std.proofs.Common.{◌≡◌, true}
use Rattle.pur_tree.specs.Walks.{joined_nodes, walk}
use Rattle.pur_cssprops.proofs.NumberLemmas.{number-characters}
use Rattle.pur_validity.specs.Attributes.{has_valid_values}
use Rattle.pur_absolute.specs.Absolute.{absolute_element}
use Rattle.pur_absolute.specs.Laws.{has_absolute_uris}
use Rattle.pur_absolute.proofs.EachLemmas.{Each, each-from, each-joined, each-absolute, each-weaker, from-each, absolute-stays, Stays}
use Rattle.pur_absolute.proofs.SettledLemmas.{IsFineElem, StylesSettle, elem-fine}
use Rattle.pur_absolute.proofs.StyleSettledLemmas.{StyleLaws, style-settled}
use Rattle.pur_absolute.proofs.UriLemmas.{UriLaws}
use Rattle.pur_absolute.proofs.laws.absolute_stays.Goals as goal

pub returns : goal.returns
returns c =
    let laws : UriLaws = record {
      scheme = c.resolving_settles.ensures.absolute;
      again = c.resolving_settles.ensures.again;
      canonical = c.resolved_is_canonical.ensures;
      bytes = c.text_is_canonical.ensures;
    } in
    let css : StyleLaws = record {
      atoms = record {
        number = c.number_is_read.ensures;
        length = c.length_is_read.ensures;
        color = c.color_is_read.ensures;
        color_digits = c.colors_are_digits.ensures;
        number_atom = c.values_are_atoms.ensures.number;
        length_atom = c.values_are_atoms.ensures.length;
        color_atom = c.values_are_atoms.ensures.color;
        unitless = number-characters;
        plain = c.atom_is_word.ensures;
        words = c.words_are_read.ensures;
      };
      clean = record {
        atoms = c.atoms_are_clean.ensures;
        families = c.families_are_clean.ensures;
        urls = c.urls_are_clean.ensures;
        canonical = c.text_is_canonical.ensures;
        comment = c.no_comment_appears.ensures.raw;
      };
      itself = c.canonical_is_read_as_itself.ensures;
      allowed = c.styles_are_allowed.ensures;
      declared = c.declarations_are_read.ensures;
      url = c.url_is_read.ensures;
    } in
    λ rules rule allows base nodes fit_base valid.
    let styles : StylesSettle rules rule allows base =
    λ element text value is made.
    let s = style-settled rules rule css laws allows base fit_base text value is made in
    record { read = s.read; absolute = s.absolute; again = s.again } in
    let Fine = IsFineElem rules rule allows base laws fit_base styles in
    let fine : Each Fine (joined_nodes (walk (absolute_element allows base) nodes)) =
    each-joined Fine (walk (absolute_element allows base) nodes)
    (each-absolute allows base (λ e. has_valid_values rules rule e ≡ true) Fine (elem-fine rules rule allows base laws fit_base styles)
    nodes (each-from (has_valid_values rules rule) nodes valid)) in
    let after = joined_nodes (walk (absolute_element allows base) nodes) in
    record {
      valid = from-each Fine (has_valid_values rules rule) (λ e is. is.valid) after fine;
      absolute = from-each Fine (has_absolute_uris allows) (λ e is. is.absolute) after fine;
      again = absolute-stays allows base (walk (absolute_element allows base) nodes) (each-weaker Fine (Stays allows base) (λ e is. is.stays) after fine);
    }
