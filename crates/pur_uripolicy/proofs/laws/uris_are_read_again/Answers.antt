use Rattle.pur_uripolicy.proofs.UseLemmas.{read-again}
use Rattle.pur_uripolicy.proofs.laws.uris_are_read_again.Goals as goal

pub returns : goal.returns
returns c = read-again (record { settles = c.reading_settles.ensures; canonical = c.text_is_canonical.ensures })
