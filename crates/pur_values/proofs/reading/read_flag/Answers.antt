use Rattle.std.proofs.Common.{◌≡◌, ◌∙◌, Some, ap, rules, string_bytes, List, ℕ}
use Rattle.std.specs.Str.{chars}
use Rattle.pur_names.specs.Attributes.{attr_name}
use Rattle.pur_laws.proofs.Texts.{chars_ascii}
use Rattle.pur_values.proofs.SolidLemmas.{name-ascii}
use Rattle.pur_values.proofs.reading.read_flag.Goals as goal

pub returns : goal.returns
returns c =
    let bytes : string_bytes c.in_ok-name.name ≡ attr_name c.args.attr = search rules in
    ap (λ (t : List ℕ). Some t) (ap chars bytes ∙ chars_ascii _ (name-ascii c.args.attr))
