use Rattle.std.proofs.Common.{◌∙◌, ap}
use Rattle.std.specs.Str.{chars}
use Rattle.std.specs.Str.Iter.{chars_rest}
use Rattle.pur_lexer.proofs.PlaceLemmas.{behind_first}
use Rattle.pur_lexer.proofs.places.behind_first.Goals as goal

pub returns-clause-rest : goal.returns-clause-rest
returns-clause-rest c =
    ap chars c.as_str.ensures
    ∙ behind_first chars_rest c.chars-characters.result c.next.new.self c.args.text.now c.next.result c.utf8.text c.chars-characters.ensures.rest c.next.ensures.steps.0
