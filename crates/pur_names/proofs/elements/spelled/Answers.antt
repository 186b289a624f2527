-- Only the one at the name's place can have the name, and the test said that it has another.
use Rattle.pur_names.proofs.Placed.{absent}
use Rattle.pur_names.proofs.ElementLaws.{placed_elements, element-placed}
use Rattle.pur_names.specs.Elements.{element_name, element_place}
use Rattle.pur_names.specs.declared.elements.Element.TheVariants.{A}
use Rattle.pur_names.proofs.elements.spelled.Goals as goal

pub returns-else-eq-clause-none : goal.returns-else-eq-clause-none
returns-else-eq-clause-none c =
    absent element_name element_place 176 placed_elements A element-placed c.args.name.now c.place.result
    c.name.result.now c.as_bytes.result.now c.eq.result c.place.ensures.value c.name.ensures c.as_bytes.ensures.value c.eq.ensures c.if-eq.false
