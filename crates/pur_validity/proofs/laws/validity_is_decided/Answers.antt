use Rattle.pur_validity.proofs.DecidingLemmas.{valid-if, if-valid}
use Rattle.pur_validity.proofs.laws.validity_is_decided.Goals as goal

pub returns : goal.returns
returns c rules rule nodes = (valid-if c.words_are_decided.ensures rules rule nodes, if-valid c.words_are_decided.ensures rules rule nodes)
