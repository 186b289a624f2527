use Rattle.pur_wellform.specs.Closing.{closed}
use Rattle.pur_wellform.proofs.ForestFacts.{closed-balanced}
use Rattle.pur_wellform.proofs.laws.closed_has_tree.Goals as goal

pub returns : goal.returns
returns c rules tokens all = c.has_tree.ensures (closed rules tokens) (closed-balanced rules tokens all)
