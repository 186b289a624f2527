-- Only the one at the name's place can have the name, and the test said that it has another.
use Rattle.pur_names.proofs.Placed.{absent}
use Rattle.pur_names.proofs.AttrLaws.{placed_attrs, attr-placed}
use Rattle.pur_names.specs.Attributes.{attr_name, attr_place}
use Rattle.pur_names.specs.declared.attributes.Attr.TheVariants.{Abbr}
use Rattle.pur_names.proofs.attributes.spelled.Goals as goal

pub returns-else-eq-clause-none : goal.returns-else-eq-clause-none
returns-else-eq-clause-none c =
    absent attr_name attr_place 128 placed_attrs Abbr attr-placed c.args.name.now c.place.result
    c.name.result.now c.as_bytes.result.now c.eq.result c.place.ensures.value c.name.ensures c.as_bytes.ensures.value c.eq.ensures c.if-eq.false
