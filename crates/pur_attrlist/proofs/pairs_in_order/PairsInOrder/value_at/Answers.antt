use Rattle.std.proofs.Common.{◌<◌, length, map}
use Rattle.pur_attrlist.specs.Private.Stored.{attribute_in}
use Rattle.pur_attrlist.proofs.StorageLaws.{pairs-told}
use Rattle.pur_attrlist.proofs.pairs_in_order.PairsInOrder.value_at.Goals as goal

pub returns-in-Plain : goal.returns-in-Plain
returns-in-Plain c =
    let within : c.args.at < length (map attribute_in c.in-Plain.plain.items) = rw c.in-Plain.is at c.requires in
    rw (c.in-Plain.is, c.as_str.ensures, c.as_slice.ensures) (pairs-told c.in-Plain.plain.items c.args.at c.index-as_slice-at.result within).1
