use Rattle.pur_attrs.proofs.StayingLemmas.{forest_stays}
use Rattle.pur_attrs.proofs.laws.keeps_forests.Goals as goal

pub returns : goal.returns
returns c rules rule nodes = forest_stays rules rule nodes
