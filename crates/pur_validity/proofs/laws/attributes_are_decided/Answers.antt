use Rattle.pur_validity.proofs.AttributeLemmas.{attributes-if, if-attributes}
use Rattle.pur_validity.proofs.laws.attributes_are_decided.Goals as goal

pub returns : goal.returns
returns c rules rule nodes = (attributes-if rules rule nodes, if-attributes rules rule nodes)
