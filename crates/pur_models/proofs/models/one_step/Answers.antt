-- What one step makes is disjoint from nothing.
use Rattle.std.proofs.Common.{rules, ◌≡◌, ap, ◌∙◌}
use Rattle.std.specs.List.{list_all}
use Rattle.pur_modules.specs.Expressions.{one_step}
use Rattle.pur_models.specs.Images.{step_of, ways_of}
use Rattle.pur_models.specs.Languages.{has_disjoint_steps}
use Rattle.pur_models.proofs.ExpressionLemmas.{one_step_is_disjoint}
use Rattle.pur_models.proofs.models.one_step.Goals as goal

pub returns-clause-disjoint : goal.returns-clause-disjoint
returns-clause-disjoint c =
    let told : ways_of (record { ways = c.push-2.new.self }) ≡ one_step (step_of c.args.step) = search rules in
    ap (list_all has_disjoint_steps) told ∙ one_step_is_disjoint (step_of c.args.step)
