use Rattle.pur_csstok.proofs.UrlLaws.{url-clean}
use Rattle.pur_csstok.proofs.laws.urls_are_clean.Goals as goal

pub returns : goal.returns
returns c = url-clean
