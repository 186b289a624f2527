-- The elements declared EMPTY are those that hold nothing.
use Rattle.std.proofs.Common.{◌≡◌, Bool, refl}
use mathlib.Core.Bool.{beq}
use Rattle.std.specs.List.{list_all}
use Rattle.pur_laws.proofs.Truth.{same_truth}
use Rattle.pur_names.specs.Elements.{all_elements}
use Rattle.pur_names.specs.declared.elements.Element.{Element}
use Rattle.pur_names.proofs.ElementLaws.{each_element}
use Rattle.pur_modules.specs.declared.kinds.Content.{Content}
use Rattle.pur_modules.specs.declared.kinds.Doctype.{Doctype}
use Rattle.pur_modules.specs.Contents.{content_held, is_empty_element, is_nothing}
use Rattle.pur_modules.proofs.KindLaws.{each_kind}

abbrev is_told : Doctype → Content → Element → Bool
is_told doctype parent element = beq (is_nothing (content_held doctype element parent)) (is_empty_element element)

pub holds_nothing : (doctype : Doctype) (element : Element) (parent : Content)
    → is_nothing (content_held doctype element parent) ≡ is_empty_element element
unfolding content_held
holds_nothing doctype element parent =
    same_truth _ _ (each_element (is_told doctype parent) (each_kind (λ d p. list_all (is_told d p) all_elements) refl doctype parent) element)
