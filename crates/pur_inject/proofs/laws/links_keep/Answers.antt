use Rattle.pur_inject.proofs.LinkKeepLemmas.{keeps-with_links}
use Rattle.pur_inject.proofs.laws.links_keep.Goals as goal

pub returns : goal.returns
returns c = keeps-with_links
