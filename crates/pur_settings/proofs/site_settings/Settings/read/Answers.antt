use Rattle.std.proofs.Common.{◌∙◌, sym, rules}
use Rattle.toml.specs.View.{table_view}
use Rattle.pur_settings.specs.Settings.{settings_in}
use Rattle.pur_settings.proofs.OffenceLemmas.{first_if_refused}
use Rattle.pur_settings.proofs.ReadingLemmas.{document-is, settings_of-document, settings_of-none, told}
use Rattle.pur_settings.proofs.site_settings.Settings.read.Goals as goal

pub returns-in-Ok-clause-value : goal.returns-in-Ok-clause-value
returns-in-Ok-clause-value c other =
    told c.read_table.result (settings_in (table_view c.in-Ok.table)) c.read_table.ensures.ok c.read_table.ensures.err other
    ∙ sym (settings_of-document c.args.text.now (table_view c.in-Ok.table) c.in-Ok.ensures.ok.0 c.in-Ok.ensures.ok.1)

pub returns-in-Ok-clause-first : goal.returns-in-Ok-clause-first
returns-in-Ok-clause-first c =
    first_if_refused c.args.text.now (table_view c.in-Ok.table) c.read_table.result
    (document-is c.args.text.now (table_view c.in-Ok.table) c.in-Ok.ensures.ok.0 c.in-Ok.ensures.ok.1)
    c.read_table.ensures.ordered c.read_table.ensures.err

pub returns-else-is_memory-clause-value : goal.returns-else-is_memory-clause-value
returns-else-is_memory-clause-value c _ = sym (settings_of-none c.args.text.now (λ utf8. c.in-Err.ensures.refused (search rules) utf8))
