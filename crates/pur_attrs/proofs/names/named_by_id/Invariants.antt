use Rattle.std.proofs.Common.{◌≡◌, map}
use Rattle.std.specs.Vec.Iter.{into_iter_items}
use Rattle.pur_attrlist.specs.Pairs.{attribute_of}
use Rattle.pur_attrs.specs.Steps.{name_as_id}
use Rattle.pur_attrs.proofs.KeepingLemmas.{put_all}
use Rattle.pur_attrs.proofs.names.named_by_id.Given as goal

abbrev pub invariant-loop-pair : goal.invariant-loop-pair
invariant-loop-pair l =
    put_all l.changed (map name_as_id (map attribute_of (into_iter_items l.pair-iterator))) ≡ map name_as_id l.fn.attrs
