use Rattle.std.proofs.Common.{◌∙◌, sym, ap, codes}
use Rattle.std.specs.Option.{option_map}
use Rattle.std.specs.Result.{result_unwrap_or}
use Rattle.toml.proofs.Views.{table_get}
use Rattle.toml.specs.View.{view}
use Rattle.pur_modules.specs.declared.kinds.Doctype.TheVariants.{Transitional}
use Rattle.pur_settings.specs.Settings.{doctype_by}
use Rattle.pur_settings.proofs.reading.find_doctype.Goals as goal

pub returns-in-Some : goal.returns-in-Some
returns-in-Some c =
    c.unwrap_or.ensures
    ∙ ap (λ a. result_unwrap_or a Transitional) c.read_doctype.ensures
    ∙ ap doctype_by (ap (option_map (λ x. view x.now)) (sym c.in-Some.is) ∙ table_get c.get.result (codes "doctype") c.args.table.now.entries c.get.ensures.value)

pub returns-in-None : goal.returns-in-None
returns-in-None c =
    ap doctype_by (ap (option_map (λ x. view x.now)) (sym c.in-None.is) ∙ table_get c.get.result (codes "doctype") c.args.table.now.entries c.get.ensures.value)
