use Rattle.pur_inject.proofs.LinkKeepLemmas.{counts-with_links}
use Rattle.pur_inject.proofs.laws.links_keep_counts.Goals as goal

pub returns : goal.returns
returns c = λ rules rule c n. counts-with_links rules rule n c
