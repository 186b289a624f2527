use Rattle.std.proofs.Common.{◌∙◌, sym, ap, codes}
use Rattle.std.specs.Option.{option_map}
use Rattle.toml.proofs.Views.{table_get}
use Rattle.toml.specs.View.{view}
use Rattle.pur_settings.specs.Settings.{version_by}
use Rattle.pur_settings.proofs.reading.find_version.Goals as goal

pub returns-in-Some : goal.returns-in-Some
returns-in-Some c =
    c.version_of.ensures
    ∙ ap version_by (ap (option_map (λ x. view x.now)) (sym c.in-Some.is) ∙ table_get c.get.result (codes "version") c.args.table.now.entries c.get.ensures.value)

pub returns-in-None : goal.returns-in-None
returns-in-None c =
    ap version_by (ap (option_map (λ x. view x.now)) (sym c.in-None.is) ∙ table_get c.get.result (codes "version") c.args.table.now.entries c.get.ensures.value)
