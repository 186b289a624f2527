use Rattle.pur_tree.specs.Properties.{distinct}
use Rattle.pur_tree.proofs.HoldsLemmas.{distinct-test, test-distinct}
use Rattle.pur_nesting.specs.Nesting.{nested}
use Rattle.pur_nesting.proofs.HoldsLemmas.{Holds-nested}
use Rattle.pur_nesting.proofs.KeptLemmas.{distinct_stays}
use Rattle.pur_nesting.proofs.laws.keeps_distinct.Goals as goal

pub returns : goal.returns
returns c = λ p nodes h. test-distinct (nested p nodes) (Holds-nested distinct p (distinct_stays p) tt nodes (distinct-test nodes h))
