use Rattle.pur_attrlist.proofs.StorageLaws.{pairs-written}
use Rattle.pur_attrlist.proofs.pairs_in_order.PairsInOrder.replace.Goals as goal

pub returns-in-Plain : goal.returns-in-Plain
returns-in-Plain c = rw c.in-Plain.is (pairs-written c.in-Plain.plain.items c.as_mut_slice.result.now c.args.at c.index-as_mut_slice-at.result c.args.value c.as_mut_slice.ensures.value)
