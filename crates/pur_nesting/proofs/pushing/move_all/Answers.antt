use Rattle.pur_tree.proofs.PushLemmas.{appended}
use Rattle.pur_nesting.proofs.pushing.move_all.Goals as goal

pub returns : goal.returns
returns c = λ more. appended c.args.out.now.items c.append.new.self.items c.args.nodes.now.items more c.in_ok-append.ensures.items
