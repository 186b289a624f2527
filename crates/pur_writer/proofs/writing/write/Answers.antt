use Rattle.pur_tree.specs.Image.{nodes_of}
use Rattle.pur_tree.proofs.SpellingLemmas.{Spells-spelling}
use Rattle.pur_writer.proofs.writing.write.Goals as goal

pub returns-clause-spelled : goal.returns-clause-spelled
returns-clause-spelled c joined good = Spells-spelling (nodes_of c.args.forest.now) c.nodes.ensures.forest.sound joined good
