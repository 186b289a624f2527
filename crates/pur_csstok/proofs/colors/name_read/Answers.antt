use Rattle.std.proofs.Common.{◌∙◌, Some, None, ap}
use Rattle.std.specs.Prelude.{List, ℕ}
use Rattle.pur_csstok.specs.Colors.{color_named}
use Rattle.pur_csstok.proofs.ColorLaws.{name-reads_ascii}
use Rattle.pur_csstok.proofs.TextLemmas.{as-characters}
use Rattle.pur_csstok.proofs.colors.name_read.Goals as goal

pub returns-in_ok-to_string-in-Some : goal.returns-in_ok-to_string-in-Some
returns-in_ok-to_string-in-Some c =
    as-characters color_named name-reads_ascii c.args.name.now c.utf8.name (Some c.in_ok-to_string-in-Some.field-0)
    (ap (λ (t : List ℕ). Some t) c.in_ok-to_string-in-Some.ensures.ok ∙ c.in-Some.ensures)

pub returns-in-None : goal.returns-in-None
returns-in-None c = as-characters color_named name-reads_ascii c.args.name.now c.utf8.name None c.in-None.ensures
