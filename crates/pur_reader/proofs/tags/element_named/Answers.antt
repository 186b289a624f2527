use Rattle.pur_reader.proofs.CharacterLemmas.{element_chars, chars_element}
use Rattle.pur_reader.proofs.tags.element_named.Goals as goal

pub returns-in-Some-clause-some : goal.returns-in-Some-clause-some
returns-in-Some-clause-some c = element_chars c.args.name.now c.in-Some.element c.in-Some.ensures.some

pub returns-in-None-clause-none : goal.returns-in-None-clause-none
returns-in-None-clause-none c = λ e is. c.in-None.ensures.none e (chars_element c.args.name.now c.utf8.name e is)
