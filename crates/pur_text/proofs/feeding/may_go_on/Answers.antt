use Rattle.std.proofs.lemmas.Bool.{not-true}
use Rattle.pur_text.proofs.feeding.may_go_on.Goals as goal

pub returns-then-bytes-le3-clause-yes : goal.returns-then-bytes-le3-clause-yes
returns-then-bytes-le3-clause-yes c is =
    let no = not-true c.has_character.result is in
    record { few = c.if-bytes-le3.true; tail = c.requires; none = c.has_character.ensures.no no }
