-- The five tell of the elements round a place whether one excludes another.
use Rattle.std.proofs.Common.{ap, ◌∙◌}
use Rattle.pur_modules.specs.Excluders.{is_excluded_by}
use Rattle.pur_modules.proofs.ExcluderLaws.{excluders-tell}
use Rattle.pur_modules.proofs.exclusions.Excluders.exclude.Goals as goal

pub returns-clause-among : goal.returns-clause-among
returns-clause-among c =
    λ outer is. c.has_one_for.ensures ∙ ap (λ e. is_excluded_by e c.args.inner) is ∙ excluders-tell outer c.args.inner
