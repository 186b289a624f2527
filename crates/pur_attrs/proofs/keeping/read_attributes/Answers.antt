-- Each pair that is read is put behind those before it, and no name comes twice.
use Rattle.std.proofs.Common.{◌≡◌, ◌∙◌, [], map, ap, sym}
use Rattle.std.specs.List.{filter_map}
use Rattle.std.specs.Vec.Iter.{into_iter_items}
use Rattle.pur_attrlist.specs.Pairs.{attribute_of}
use Rattle.pur_attrs.specs.Steps.{kept_attribute}
use Rattle.pur_attrs.specs.Private.Parts.{source_of}
use Rattle.pur_attrs.proofs.KeepingLemmas.{put_all, put-one, put-distinct, distinct-left}
use Rattle.pur_attrs.proofs.ValueLemmas.{kept-name}
use Rattle.pur_attrs.proofs.keeping.read_attributes.Goals as goal

pub loop-pair-init : goal.loop-pair-init
loop-pair-init g c =
    let rules = c.args.settings.now in
    let rule = c.args.gate.now in
    let element = c.args.element in
    let read = kept_attribute rules rule element in
    let items : into_iter_items c.into_iter-pair-iterator.result ≡ c.in_ok-pair-items.pair-items.items = c.into_iter-pair-iterator.ensures.into_iter_gives.0 in
    record {
      attrs =
          ap (λ kept. put_all kept (filter_map read (map attribute_of (into_iter_items c.into_iter-pair-iterator.result)))) c.new.ensures
          ∙ ap (λ l. put_all [] (filter_map read l)) (ap (map attribute_of) items ∙ c.in_ok-pair-items.ensures.pairs)
          ∙ put-distinct [] (filter_map read c.args.attrs) (distinct-left read (kept-name rules rule element) c.args.attrs c.in_ok-pair-items.ensures.distinct);
      source = ap source_of (sym c.new.ensures);
    }

pub loop-pair-preserved : goal.loop-pair-preserved
loop-pair-preserved g c =
    let read = kept_attribute c.args.settings.now c.args.gate.now c.args.element in
    let old = c.loop-pair.kept.attrs in
    let rest = filter_map read (map attribute_of (into_iter_items c.next.new.self)) in
    record {
      attrs =
          ap (λ kept. put_all kept rest) c.in_ok-keep.ensures.attrs
          ∙ put-one old (read (attribute_of c.in-Some.pair)) rest
          ∙ ap (λ l. put_all old (filter_map read (map attribute_of l))) (sym c.in-Some.ensures.steps.0)
          ∙ c.loop-pair.invariant.attrs;
      source = c.in_ok-keep.ensures.source;
    }
