use Rattle.pur_attrlist.specs.Private.Stored.{attribute_in}
use Rattle.pur_attrlist.proofs.StorageLaws.{map-remove}
use Rattle.pur_attrlist.proofs.pairs_in_order.PairsInOrder.take_out.Goals as goal

pub returns-in-Plain : goal.returns-in-Plain
returns-in-Plain c = rw (c.in-Plain.is, c.remove.ensures.items) (map-remove attribute_in c.in-Plain.plain.items c.args.at)
