use Rattle.std.proofs.Common.{◌≡◌, map}
use Rattle.std.specs.List.{filter_map}
use Rattle.std.specs.Vec.Iter.{into_iter_items}
use Rattle.pur_attrlist.specs.Pairs.{attribute_of}
use Rattle.pur_attrs.specs.Steps.{kept_attribute}
use Rattle.pur_attrs.specs.Private.Parts.{source_of}
use Rattle.pur_attrs.proofs.KeepingLemmas.{put_all}
use Rattle.pur_attrs.proofs.keeping.read_attributes.Given as goal

abbrev pub invariant-loop-pair : goal.invariant-loop-pair
invariant-loop-pair g l =
    let read = kept_attribute l.settings l.gate l.element in
    record {
      attrs : put_all l.kept.attrs (filter_map read (map attribute_of (into_iter_items l.pair-iterator))) ≡ filter_map read l.fn.attrs;
      source : l.kept.source ≡ source_of l.kept.attrs;
    }
