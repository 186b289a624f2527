use Rattle.pur_uri.proofs.AgainLemmas.{read_again}
use Rattle.pur_uri.proofs.ByteLemmas.{text_bytes}
use Rattle.pur_uri.proofs.laws.reading_settles.Goals as goal

pub returns : goal.returns
returns c = λ raw uri is. read_again c.host_is_plain.ensures c.host_is_lowered.ensures raw uri (text_bytes raw is)
