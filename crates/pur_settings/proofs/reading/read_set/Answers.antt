use Rattle.std.proofs.Common.{◌∙◌, ◌≡◌, sym, ap, Ok, drop, arith, ◌+◌, ◌∷◌, ◌++◌}
use Rattle.std.proofs.lemmas.List.{drop_more}
use Rattle.toml.specs.View.{view, items_view}
use Rattle.pur_settings.specs.Reading.{reading_map, items_in}
use Rattle.pur_settings.specs.Sets.{each_once}
use Rattle.pur_settings.proofs.ReadingLemmas.{list-begun, list-past}
use Rattle.pur_settings.proofs.SetLemmas.{none, twice, with-more}
use Rattle.pur_settings.proofs.reading.read_set.Goals as goal

pub loop-item-init : goal.loop-item-init
loop-item-init g c = record {
  settled = rw c.new-set.ensures (none g.S.Sort.rank g.S.Sort.all);
  whole =
      list-begun (each_once g.S.Sort.rank g.S.Sort.all) (g.S.Sort.named c.args.edition) (view c.args.value.now) (items_view c.deref-item-items.result.now) c.new-set.result
      c.new-set.ensures
      (sym (c.in_ok-read_items.ensures) ∙ ap (λ items. Ok (items_view items)) (sym c.deref-item-items.ensures.value));
}

pub loop-item-preserved : goal.loop-item-preserved
loop-item-preserved g c =
    let next : c.item-item.result ∷ drop (c.loop-item.item-index + 1) c.deref-item-items.result.now ≡ drop c.loop-item.item-index c.deref-item-items.result.now
    = ap (λ x. x ∷ drop (c.loop-item.item-index + 1) c.deref-item-items.result.now) c.item-item.is
    ∙ sym (drop_more c.deref-item-items.result.now c.loop-item.item-index _ (grind arith)) in
    record {
      settled = rw c.insert.ensures (twice g.S.Sort.rank g.S.Sort.all (c.in_ok-name.name ∷ c.loop-item.set));
      whole =
          list-past (each_once g.S.Sort.rank g.S.Sort.all) (g.S.Sort.named c.args.edition) (view c.item-item.result) (items_view (drop (c.loop-item.item-index + 1) c.deref-item-items.result.now))
          c.in_ok-name.name c.loop-item.set c.insert.new.self
          (sym (c.in_ok-name.ensures)) (λ more. rw c.insert.ensures (with-more g.S.Sort.rank g.S.Sort.all c.in_ok-name.name c.loop-item.set more))
          ∙ ap (λ values. reading_map (λ more. each_once g.S.Sort.rank g.S.Sort.all (c.loop-item.set ++ more)) (items_in (g.S.Sort.named c.args.edition) (items_view values))) next
          ∙ c.loop-item.invariant.whole;
    }
