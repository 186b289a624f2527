-- The bytes are looked up exactly, so the answer is the look-up's, and names are distinct.
use Rattle.std.proofs.Common.{sym, ◌∙◌, ap}
use Rattle.pur_names.specs.Elements.{element_named}
use Rattle.pur_names.proofs.ElementLaws.{element_named-name, element_named-only}
use Rattle.pur_names.proofs.elements.Element.from_name.Goals as goal

pub returns-clause-value : goal.returns-clause-value
returns-clause-value c =
    element_named-only c.spelled.result c.as_bytes.result.now c.spelled.ensures.some c.spelled.ensures.none ∙ ap element_named c.as_bytes.ensures.value

pub returns-clause-inverse : goal.returns-clause-inverse
returns-clause-inverse c = λ e same. returns-clause-value c ∙ sym (ap element_named same) ∙ element_named-name e
