use Rattle.std.proofs.Common.{sym}
use Rattle.pur_reader.proofs.CharacterLemmas.{an_attr, no_attr}
use Rattle.pur_reader.proofs.tags.is_attr_name.Goals as goal

pub returns-in-Some : goal.returns-in-Some
returns-in-Some c = sym (an_attr c.args.name.now c.in-Some.field-0 c.in-Some.ensures.some)

pub returns-in-None : goal.returns-in-None
returns-in-None c = sym (no_attr c.args.name.now c.utf8.name c.in-None.ensures.none)
