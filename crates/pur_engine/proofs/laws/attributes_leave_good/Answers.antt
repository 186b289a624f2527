use Rattle.pur_engine.proofs.SpelledLemmas.{spellable}
use Rattle.pur_engine.proofs.laws.attributes_leave_good.Goals as goal

pub returns : goal.returns
returns c rules rule nodes text spells valid = c.leaves_valid.ensures rules rule nodes (spellable spells) valid.attributes
