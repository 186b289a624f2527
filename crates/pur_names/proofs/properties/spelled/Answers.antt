-- Only the one at the name's place can have the name, and the test said that it has another.
use Rattle.pur_names.proofs.Placed.{absent}
use Rattle.pur_names.proofs.StylePropLaws.{placed_props, prop-placed}
use Rattle.pur_names.specs.Properties.{prop_name, prop_place}
use Rattle.pur_names.specs.declared.properties.StyleProp.TheVariants.{BackgroundAttachment}
use Rattle.pur_names.proofs.properties.spelled.Goals as goal

pub returns-else-eq-clause-none : goal.returns-else-eq-clause-none
returns-else-eq-clause-none c =
    absent prop_name prop_place 128 placed_props BackgroundAttachment prop-placed c.args.name.now c.place.result
    c.name.result.now c.as_bytes.result.now c.eq.result c.place.ensures.value c.name.ensures c.as_bytes.ensures.value c.eq.ensures c.if-eq.false
