use Rattle.std.proofs.Common.{◌≡◌, true}
use Rattle.toml.specs.View.{members_view}
use Rattle.pur_settings.specs.Private.Walk.{with_members}
use Rattle.pur_settings.specs.Table.{table_for}
use Rattle.pur_settings.proofs.reading.put_members.Given as goal

abbrev pub invariant-loop-name : goal.invariant-loop-name
invariant-loop-name l =
    with_members (table_for l.fn.edition) (members_view l.table.entries) (record l.fn.settings { external = true })
    ≡ with_members (table_for l.fn.edition) (members_view l.name-iterator) (record l.settings { external = l.external })
