-- What is among the elements of a list.
use Rattle.std.proofs.Common.{◌≡◌, Bool, true, List, [], ◌∷◌, ap, ◌∙◌}
use Rattle.std.specs.List.{list_all}
use Rattle.std.proofs.lemmas.Bool.{and_parts, or_cases}
use Rattle.std.proofs.Common.{⊎_elim}
use Rattle.pur_names.specs.Elements.{same_element}
use Rattle.pur_names.specs.declared.elements.Element.{Element}
use Rattle.pur_names.proofs.ElementLaws.{same_element-Decides}
use Rattle.pur_modules.specs.Groups.{is_among}

-- what all elements of a list pass, each that is among them passes
pub among-passes : (test : Element → Bool) (elements : List Element) (element : Element) → list_all test elements ≡ true
    → is_among elements element ≡ true → test element ≡ true
among-passes test [] element all among = absurd (cc)
among-passes test (first ∷ elements) element all among =
    let parts = and_parts (test first) (list_all test elements) all in
    ⊎_elim
    (λ (same : same_element element first ≡ true). ap test ((same_element-Decides element first).0 same) ∙ parts.0)
    (λ (later : is_among elements element ≡ true). among-passes test elements element parts.1 later)
    (or_cases (same_element element first) (is_among elements element) among)
