use Rattle.pur_tree.specs.Properties.{pictures}
use Rattle.pur_nesting.proofs.HoldsLemmas.{Holds-nested}
use Rattle.pur_nesting.proofs.KeptLemmas.{pictures_stay}
use Rattle.pur_nesting.proofs.laws.keeps_pictures.Goals as goal

pub returns : goal.returns
returns c = λ test p nodes h. Holds-nested (pictures test) p (pictures_stay test p) tt nodes h
