use Rattle.std.proofs.Common.{◌≡◌, ◌++◌, ◌∷◌, [], rules, string_bytes}
use Rattle.pur_absolute.proofs.StyleLemmas.{declaration-added}
use Rattle.pur_absolute.proofs.styles.push_declaration.Goals as goal

pub returns : goal.returns
returns c =
    let out = string_bytes c.args.out.now in
    let bytes : string_bytes c.push_str-4.new.self ≡ (((out ++ c.args.property.now) ++ 0x3A ∷ []) ++ c.args.value.now) ++ 0x3B ∷ [] = search rules in
    declaration-added c.args.out.now c.push_str-4.new.self c.args.property.now c.args.value.now c.utf8.property c.utf8.value bytes
