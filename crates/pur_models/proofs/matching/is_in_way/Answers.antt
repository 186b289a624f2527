-- Where a step has no run that is long enough, and where no step is left.
use Rattle.std.proofs.Common.{◌≡◌, ◌<◌, false, sym, ◌∙◌, map, drop, length, nat_eq, arith}
use Rattle.std.proofs.lemmas.Grind.{common_steps}
use Rattle.pur_models.specs.Images.{step_of}
use Rattle.pur_models.specs.Deciding.{longest_run, is_cut}
use Rattle.pur_models.proofs.CuttingLemmas.{IsInWay-cut, cut-IsInWay}
use Rattle.pur_models.proofs.MatchingLemmas.{cut_ends, cut_stops}
use Rattle.pur_models.proofs.matching.is_in_way.Goals as goal

pub returns-then-run-from : goal.returns-then-run-from
returns-then-run-from c =
    let step = c.step-item.result in
    let left = drop c.loop-step.at c.args.word.now in
    let short : longest_run (step_of step) left < step.least = grind (arith, common_steps) in
    let stops : is_cut (map step_of c.args.way.now) c.args.word.now ≡ false =
    c.loop-step.invariant.rest ∙ cut_stops c.args.way.now c.loop-step.step-index step left (omega arith) c.step-item.is short in
    (λ never. absurd (cc), λ w. sym stops ∙ cut-IsInWay w c.requires)

pub returns : goal.returns
returns c =
    let ends : is_cut (map step_of c.args.way.now) c.args.word.now ≡ nat_eq c.loop-step.at (length c.args.word.now) =
    c.loop-step.invariant.rest
    ∙ cut_ends c.args.way.now c.loop-step.step-index c.loop-step.at c.args.word.now (omega arith) c.loop-step.invariant.within in
    (λ yes. IsInWay-cut _ _ (ends ∙ yes), λ w. sym ends ∙ cut-IsInWay w c.requires)
