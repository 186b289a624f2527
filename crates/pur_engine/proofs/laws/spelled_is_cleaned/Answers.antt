use Rattle.pur_engine.proofs.TextLemmas.{spelling_allowed}
use Rattle.pur_engine.proofs.laws.spelled_is_cleaned.Goals as goal

pub returns : goal.returns
returns c nodes text spells = c.allowed_is_cleaned.ensures text (spelling_allowed spells)
