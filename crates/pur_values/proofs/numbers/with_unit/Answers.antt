use Rattle.std.proofs.Common.{◌≡◌, ◌++◌, ◌∙◌, ap, arith, rules, string_bytes}
use Rattle.std.specs.Fmt.{decimal}
use Rattle.std.specs.Str.{chars}
use Rattle.pur_laws.proofs.Texts.{chars_ascii}
use Rattle.pur_values.proofs.FixedNumberLemmas.{decimal-ascii}
use Rattle.pur_values.proofs.numbers.with_unit.Goals as goal

pub returns : goal.returns
returns c =
    let bytes : string_bytes c.push_str.new.self ≡ decimal c.args.number ++ c.args.unit.now = search rules in
    ap chars bytes ∙ chars_ascii _ (decimal-ascii c.args.number c.args.unit.now (omega arith) c.requires)
