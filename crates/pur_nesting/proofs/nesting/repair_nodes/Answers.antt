use Rattle.std.proofs.Common.{subst, sym}
use Rattle.pur_tree.specs.Forests.{IsForest}
use Rattle.pur_tree.specs.Image.{nodes_of}
use Rattle.pur_nesting.proofs.ForestLemmas.{repaired_forest}
use Rattle.pur_nesting.proofs.nesting.repair_nodes.Goals as goal

pub returns-clause-forest : goal.returns-clause-forest
returns-clause-forest c = subst IsForest (sym c.in_ok-out.ensures) (repaired_forest c.args.permits (nodes_of c.args.nodes.items) c.requires)
