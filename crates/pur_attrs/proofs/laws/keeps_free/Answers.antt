use Rattle.pur_attrs.proofs.StayingLemmas.{free_stays}
use Rattle.pur_attrs.proofs.laws.keeps_free.Goals as goal

pub returns : goal.returns
returns c rules rule outer nodes h = free_stays rules rule outer nodes h
