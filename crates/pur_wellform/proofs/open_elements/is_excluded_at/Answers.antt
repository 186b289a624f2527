use Rattle.pur_wellform.specs.Private.Opens.{names_of}
use Rattle.pur_wellform.proofs.OpenFacts.{innermost}
use Rattle.pur_wellform.proofs.open_elements.is_excluded_at.Goals as goal

pub returns-in-Some : goal.returns-in-Some
returns-in-Some c =
    let i = innermost c.args._settings.now c.args.opened.now c.in-Some.field-0-1.now c.in-Some.last.now c.requires c.in-Some.ensures.cases.0 in
    c.exclude.ensures.among (names_of c.args.opened.now) i.known.excluders
