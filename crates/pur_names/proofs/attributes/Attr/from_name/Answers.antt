-- The bytes are looked up exactly, so the answer is the look-up's, and names are distinct.
use Rattle.std.proofs.Common.{sym, ◌∙◌, ap}
use Rattle.pur_names.specs.Attributes.{attr_named}
use Rattle.pur_names.proofs.AttrLaws.{attr_named-name, attr_named-only}
use Rattle.pur_names.proofs.attributes.Attr.from_name.Goals as goal

pub returns-clause-value : goal.returns-clause-value
returns-clause-value c =
    attr_named-only c.spelled.result c.as_bytes.result.now c.spelled.ensures.some c.spelled.ensures.none ∙ ap attr_named c.as_bytes.ensures.value

pub returns-clause-inverse : goal.returns-clause-inverse
returns-clause-inverse c = λ a same. returns-clause-value c ∙ sym (ap attr_named same) ∙ attr_named-name a
