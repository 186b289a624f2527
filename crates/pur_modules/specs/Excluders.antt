-- Which of the elements that exclude others stand round a place (XHTML 1.0, appendix B).
use Rattle.std.specs.Prelude.{Bool, false, ◌&&◌, ◌||◌, List, [], ◌∷◌}
use Rattle.pur_names.specs.Elements.{same_element}
use Rattle.pur_names.specs.declared.elements.Element.{Element}
use Rattle.pur_names.specs.declared.elements.Element.TheVariants.{A, Button, Form, Label, Pre}
use Rattle.pur_modules.specs.Contents.{is_excluded}
use Rattle.pur_modules.specs.declared.exclusions.Excluders.{Excluders}

-- none of them
abbrev pub no_excluders : Excluders
no_excluders = record { anchor = false; preformatted = false; form = false; label = false; button = false }

-- with one more element round the place
abbrev pub with_excluder : Element → Excluders → Excluders
with_excluder element e = record {
  anchor = same_element A element || e.anchor;
  preformatted = same_element Pre element || e.preformatted;
  form = same_element Form element || e.form;
  label = same_element Label element || e.label;
  button = same_element Button element || e.button;
}

-- those among the elements that stand round a place
abbrev pub excluders_of : List Element → Excluders
excluders_of [] = no_excluders
excluders_of (element ∷ outer) = with_excluder element (excluders_of outer)

-- whether one of them excludes an element
abbrev pub is_excluded_by : Excluders → Element → Bool
is_excluded_by e inner =
    (e.anchor && is_excluded A inner)
    || ((e.preformatted && is_excluded Pre inner)
    || ((e.form && is_excluded Form inner) || ((e.label && is_excluded Label inner) || (e.button && is_excluded Button inner))))
