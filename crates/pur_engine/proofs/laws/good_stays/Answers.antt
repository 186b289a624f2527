use Rattle.std.proofs.Common.{ap, ◌∙◌}
use Rattle.pur_inject.specs.Injected.{injected}
use Rattle.pur_attrs.specs.Attributes.{with_valid_attributes}
use Rattle.pur_engine.proofs.laws.good_stays.Goals as goal

pub returns : goal.returns
returns c rules rule nodes text spells valid off =
    ap (λ n. with_valid_attributes rules rule (injected rules rule n)) (c.good_reaches_injectors.ensures rules rule nodes text spells valid)
    ∙ ap (with_valid_attributes rules rule) (c.injects_nothing.ensures rules rule nodes off)
    ∙ c.attributes_leave_good.ensures rules rule nodes text spells valid
