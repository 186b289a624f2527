use Rattle.pur_attrs.proofs.StayingLemmas.{permitted_stays}
use Rattle.pur_attrs.proofs.laws.keeps_permitted.Goals as goal

pub returns : goal.returns
returns c permits rules rule nodes h = permitted_stays permits rules rule nodes h
