use Rattle.pur_attrs.proofs.LeavingLemmas.{valid-stay}
use Rattle.pur_attrs.proofs.laws.leaves_valid.Goals as goal

pub returns : goal.returns
returns c rules rule nodes spellable valid = valid-stay rules rule nodes valid
