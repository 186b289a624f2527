use Rattle.std.proofs.Common.{◌≡◌, ◌++◌, drop}
use Rattle.toml.specs.View.{view, items_view}
use Rattle.pur_settings.specs.Reading.{reading_map, list_in, items_in}
use Rattle.pur_settings.specs.Sets.{each_once}
use Rattle.pur_settings.proofs.reading.read_set.Given as goal

abbrev pub invariant-loop-item : goal.invariant-loop-item
invariant-loop-item g l = record {
  settled : each_once g.S.Sort.rank g.S.Sort.all l.set ≡ l.set;
  whole : reading_map (λ more. each_once g.S.Sort.rank g.S.Sort.all (l.set ++ more)) (items_in (g.S.Sort.named l.fn.edition) (items_view (drop l.item-index l.item-items)))
      ≡ reading_map (each_once g.S.Sort.rank g.S.Sort.all) (list_in (g.S.Sort.named l.fn.edition) (view l.fn.value));
}
