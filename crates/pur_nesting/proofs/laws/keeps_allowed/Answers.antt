use Rattle.pur_tree.specs.Properties.{allowed}
use Rattle.pur_tree.proofs.HoldsLemmas.{allowed-test, test-allowed}
use Rattle.pur_nesting.specs.Nesting.{nested}
use Rattle.pur_nesting.proofs.HoldsLemmas.{Holds-nested}
use Rattle.pur_nesting.proofs.KeptLemmas.{allowed_stays}
use Rattle.pur_nesting.proofs.laws.keeps_allowed.Goals as goal

pub returns : goal.returns
returns c = λ p nodes h. test-allowed (nested p nodes) (Holds-nested allowed p (allowed_stays p) tt nodes (allowed-test nodes h))
