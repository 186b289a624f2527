use Rattle.std.specs.Str.{chars}
use Rattle.pur_tree.specs.Building.{opened_of}
use Rattle.pur_reader.proofs.StepLemmas.{no_end_of_tag}
use Rattle.pur_reader.proofs.reading.put_markup.Goals as goal

pub returns-in-None-clause-none : goal.returns-in-None-clause-none
returns-in-None-clause-none c = λ w. no_end_of_tag (opened_of c.args.builder.now) (chars c.args.text.now) w c.in-None.ensures.none
