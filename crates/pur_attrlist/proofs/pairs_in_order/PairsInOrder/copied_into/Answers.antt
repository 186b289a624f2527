use Rattle.std.proofs.Common.{◌≡◌, slice_get, Some, sym, add-one}
use Rattle.pur_attrlist.specs.Attributes.{names_of, values_of}
use Rattle.pur_attrlist.specs.Private.Storage.{attributes_of}
use Rattle.pur_attrlist.specs.Private.Stored.{text_in}
use Rattle.pur_attrlist.proofs.AttributeLaws.{has_name-take, take-next}
use Rattle.pur_attrlist.proofs.pairs_in_order.PairsInOrder.copied_into.Goals as goal

pub put-requires : goal.put-requires
put-requires c =
    let told : slice_get (names_of (attributes_of c.args.self.now)) c.loop-at.at ≡ Some (text_in c.in_ok-name.name) =
    rw c.in_ok-name.ensures c.name_at.ensures in
    rw c.loop-at.invariant (has_name-take (attributes_of c.args.self.now) c.loop-at.at (text_in c.in_ok-name.name) c.requires.distinct told)

pub loop-at-preserved : goal.loop-at-preserved
loop-at-preserved c =
    let name : slice_get (names_of (attributes_of c.args.self.now)) c.loop-at.at ≡ Some (text_in c.in_ok-name.name) =
    rw c.in_ok-name.ensures c.name_at.ensures in
    let value : slice_get (values_of (attributes_of c.args.self.now)) c.loop-at.at ≡ Some (text_in c.in_ok-value.value) =
    rw c.in_ok-value.ensures c.value_at.ensures in
    rw (c.in_ok-put.ensures.ok, c.loop-at.invariant, add-one)
    (sym (take-next (attributes_of c.args.self.now) c.loop-at.at (text_in c.in_ok-name.name) (text_in c.in_ok-value.value) name value))
