use Rattle.std.proofs.Common.{◌≡◌, ◌≢◌, ◌∙◌, ap, subst, Ok, Err}
use Rattle.std.specs.Prelude.{IfOk, IfErr}
use Rattle.toml.specs.View.{table_view}
use Rattle.pur_settings.specs.Private.Walk.{with_all}
use Rattle.pur_settings.specs.Reading.{Reading}
use Rattle.pur_settings.specs.Rules.{Rules}
use Rattle.pur_settings.specs.Table.{table_for}
use Rattle.pur_settings.specs.declared.faults.SettingsFault.TheVariants.{Memory}
use Rattle.pur_settings.proofs.WalkLemmas.{walk_is_look_up}
use Rattle.pur_settings.proofs.reading.read_table.Goals as goal

pub returns-clause-ok : goal.returns-clause-ok
returns-clause-ok c =
    subst (λ (gives : Reading Rules). IfOk c.read_members.result (λ rules. gives ≡ Ok rules))
    (ap (λ edition. with_all (table_for edition) (table_view c.args.table.now)) c.find_edition-edition.ensures
    ∙ walk_is_look_up (table_view c.args.table.now) c.read_members.ensures.ordered)
    c.read_members.ensures.ok

pub returns-clause-err : goal.returns-clause-err
returns-clause-err c =
    subst (λ (gives : Reading Rules). IfErr c.read_members.result (λ fault. fault ≢ Memory → gives ≡ Err fault))
    (ap (λ edition. with_all (table_for edition) (table_view c.args.table.now)) c.find_edition-edition.ensures
    ∙ walk_is_look_up (table_view c.args.table.now) c.read_members.ensures.ordered)
    c.read_members.ensures.err
