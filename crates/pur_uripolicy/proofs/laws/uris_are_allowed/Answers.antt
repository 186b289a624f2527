use Rattle.pur_uripolicy.proofs.UseLemmas.{uris-allowed}
use Rattle.pur_uripolicy.proofs.laws.uris_are_allowed.Goals as goal

pub returns : goal.returns
returns c = uris-allowed c.text_is_canonical.ensures
