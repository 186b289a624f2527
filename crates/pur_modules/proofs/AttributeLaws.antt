-- No attribute is declared twice on an element; which attributes forms alone have.
use Rattle.std.proofs.Common.{◌≡◌, true, not, refl}
use mathlib.Core.Bool.{beq}
use Rattle.std.specs.List.{list_all}
use Rattle.pur_laws.proofs.Truth.{same_truth}
use Rattle.pur_names.specs.declared.attributes.Attr.{Attr}
use Rattle.pur_names.proofs.AttrLaws.{each_attr}
use Rattle.pur_names.specs.Elements.{all_elements}
use Rattle.pur_names.specs.declared.elements.Element.{Element}
use Rattle.pur_names.proofs.ElementLaws.{each_element}
use Rattle.pur_modules.specs.declared.kinds.Doctype.{Doctype}
use Rattle.pur_modules.specs.AttributeLists.{attributes_of, is_of_none_else, is_outside_forms, is_without_repeats}
use Rattle.pur_modules.proofs.KindLaws.{each_doctype}

pub declared_once : (doctype : Doctype) (element : Element) → is_without_repeats (attributes_of doctype element) ≡ true
unfolding attributes_of
declared_once doctype element =
    each_element (λ e. is_without_repeats (attributes_of doctype e))
    (each_doctype (λ d. list_all (λ e. is_without_repeats (attributes_of d e)) all_elements) refl doctype) element

-- what forms alone have, and the name, which no element has
pub outside_forms : (attr : Attr) → is_outside_forms attr ≡ not (is_of_none_else attr)
unfolding is_outside_forms attributes_of
outside_forms attr = same_truth _ _ (each_attr (λ a. beq (is_outside_forms a) (not (is_of_none_else a))) refl attr)
