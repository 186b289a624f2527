use Rattle.pur_foreign.proofs.PictureLemmas.{pictures-kept}
use Rattle.pur_foreign.proofs.laws.kept_pictures_have_sources.Goals as goal

pub returns : goal.returns
returns c = pictures-kept
