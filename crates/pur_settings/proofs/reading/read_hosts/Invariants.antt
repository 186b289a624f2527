use Rattle.std.proofs.Common.{◌≡◌, ◌++◌, map, drop, string_bytes}
use Rattle.std.specs.Prelude.{IsTrue}
use Rattle.std.specs.List.{list_all}
use Rattle.toml.specs.View.{view, items_view}
use Rattle.pur_text.specs.Hosts.{is_host}
use Rattle.pur_settings.specs.Reading.{reading_map, list_in, items_in}
use Rattle.pur_settings.specs.Table.{host_named}
use Rattle.pur_settings.proofs.reading.read_hosts.Given as goal

abbrev pub invariant-loop-item : goal.invariant-loop-item
invariant-loop-item l = record {
  form : IsTrue (list_all is_host (map string_bytes l.hosts.items));
  whole : reading_map (λ more. map string_bytes l.hosts.items ++ more) (items_in host_named (items_view (drop l.item-index l.item-items)))
      ≡ list_in host_named (view l.fn.value);
}
