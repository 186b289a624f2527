-- What becomes of each attribute is put behind those before it, and no name comes twice.
use Rattle.std.proofs.Common.{◌≡◌, ◌∙◌, [], map, ap}
use Rattle.std.specs.List.{filter_map, list_any}
use Rattle.std.specs.Vec.Iter.{into_iter_items}
use Rattle.pur_attrlist.specs.Pairs.{attribute_of}
use Rattle.pur_absolute.specs.Absolute.{absolute_attribute, is_missed}
use Rattle.pur_absolute.proofs.KeptLemmas.{absolute-name, distinct-left, put_all, put-distinct}
use Rattle.pur_absolute.proofs.attributes.absolute_attributes.Goals as goal

pub loop-pair-init : goal.loop-pair-init
loop-pair-init g c =
    let all : map attribute_of (into_iter_items c.into_iter-pair-iterator.result) ≡ c.args.attrs =
    ap (map attribute_of) c.into_iter-pair-iterator.ensures.into_iter_gives.0 ∙ c.in_ok-pair-items.ensures.pairs in
    λ allows answers.
    let made = absolute_attribute allows c.args.base.now in (
      ap (λ kept. put_all kept (filter_map made (map attribute_of (into_iter_items c.into_iter-pair-iterator.result)))) c.new-kept.ensures
          ∙ ap (λ l. put_all [] (filter_map made l)) all
          ∙ put-distinct [] (filter_map made c.args.attrs) (distinct-left made (absolute-name allows c.args.base.now) c.args.attrs c.in_ok-pair-items.ensures.distinct),
      ap (list_any (is_missed allows c.args.base.now c.args.element)) all,
    )
