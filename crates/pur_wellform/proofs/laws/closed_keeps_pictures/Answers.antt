use Rattle.pur_wellform.proofs.PictureFacts.{closed-pictures}
use Rattle.pur_wellform.proofs.laws.closed_keeps_pictures.Goals as goal

pub returns : goal.returns
returns c = closed-pictures
