use Rattle.pur_inject.proofs.BothLemmas.{bring-no-links}
use Rattle.pur_inject.proofs.laws.paragraphs_bring_no_links.Goals as goal

pub returns : goal.returns
returns c = bring-no-links
