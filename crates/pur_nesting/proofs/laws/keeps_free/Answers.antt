use Rattle.pur_tree.specs.Properties.{free}
use Rattle.pur_nesting.proofs.HoldsLemmas.{Holds-nested}
use Rattle.pur_nesting.proofs.KeptLemmas.{free_stays}
use Rattle.pur_nesting.proofs.laws.keeps_free.Goals as goal

pub returns : goal.returns
returns c = λ p outer nodes h. Holds-nested free p (free_stays p) outer nodes h
