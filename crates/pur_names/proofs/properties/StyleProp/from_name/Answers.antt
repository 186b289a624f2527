-- The bytes are looked up exactly, so the answer is the look-up's, and names are distinct.
use Rattle.std.proofs.Common.{sym, ◌∙◌, ap}
use Rattle.pur_names.specs.Properties.{prop_named}
use Rattle.pur_names.proofs.StylePropLaws.{prop_named-name, prop_named-only}
use Rattle.pur_names.proofs.properties.StyleProp.from_name.Goals as goal

pub returns-clause-value : goal.returns-clause-value
returns-clause-value c =
    prop_named-only c.spelled.result c.as_bytes.result.now c.spelled.ensures.some c.spelled.ensures.none ∙ ap prop_named c.as_bytes.ensures.value

pub returns-clause-inverse : goal.returns-clause-inverse
returns-clause-inverse c = λ p same. returns-clause-value c ∙ sym (ap prop_named same) ∙ prop_named-name p
