use Rattle.std.proofs.Common.{◌≡◌, ◌∷◌, [], ◌∙◌, ap, refl, rules, string_bytes}
use Rattle.std.specs.Str.{chars}
use Rattle.pur_laws.proofs.Texts.{chars_past}
use Rattle.pur_values.proofs.colors.marked.Goals as goal

pub returns : goal.returns
returns c =
    let text = c.args.text.now in
    let bytes : string_bytes c.push_str.new.self ≡ 0x23 ∷ text = search rules in
    ap chars bytes ∙ chars_past (0x23 ∷ []) text refl
