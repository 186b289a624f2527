use Rattle.std.proofs.Common.{◌≡◌, ◌∷◌, [], ◌∙◌, ap, arith, rules, string_bytes}
use Rattle.std.specs.List.{flat_map}
use Rattle.std.specs.Str.{chars}
use Rattle.pur_csstok.specs.Colors.{two_digits}
use Rattle.pur_csstok.proofs.ColorLaws.{digits-chars}
use Rattle.pur_csstok.proofs.colors.color_with.Goals as goal

pub returns : goal.returns
returns c =
    let parts = c.args.red ∷ c.args.green ∷ c.args.blue ∷ [] in
    let bytes : string_bytes c.push_part-3.new.output ≡ 0x23 ∷ flat_map two_digits parts = search rules in
    ap chars bytes ∙ digits-chars c.args.red c.args.green c.args.blue (omega arith) (omega arith) (omega arith)
