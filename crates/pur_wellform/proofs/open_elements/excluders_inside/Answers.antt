use Rattle.std.proofs.Common.{ap, ◌∙◌}
use Rattle.pur_modules.specs.Excluders.{with_excluder}
use Rattle.pur_wellform.proofs.OpenFacts.{innermost}
use Rattle.pur_wellform.proofs.open_elements.excluders_inside.Goals as goal

pub returns-in-Some : goal.returns-in-Some
returns-in-Some c =
    let i = innermost c.args._settings.now c.args.opened.now c.in-Some.field-0-1.now c.in-Some.last.now c.requires c.in-Some.ensures.cases.0 in
    c.inside.ensures ∙ ap (with_excluder c.args.name) i.known.excluders
