use Rattle.pur_wellform.proofs.OpenFacts.{innermost}
use Rattle.pur_wellform.proofs.open_elements.content_at.Goals as goal

pub returns-in-Some : goal.returns-in-Some
returns-in-Some c =
    (innermost c.args.settings.now c.args.opened.now c.in-Some.field-0-1.now c.in-Some.last.now c.requires c.in-Some.ensures.cases.0).known.content
