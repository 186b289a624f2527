use Rattle.std.proofs.Common.{◌≡◌, ◌∙◌, ◌++◌, ◌∷◌, [], rules, string_bytes}
use Rattle.pur_cssprops.proofs.TextLemmas.{declaration-added}
use Rattle.pur_cssprops.proofs.styles.push_declaration.Goals as goal

pub returns : goal.returns
returns c =
    let style = string_bytes c.args.style.now in
    let bytes : string_bytes c.push-2.new.self ≡ (((style ++ c.args.property.now) ++ 0x3A ∷ []) ++ c.args.value.now) ++ 0x3B ∷ [] = search rules in
    bytes ∙ declaration-added style c.args.property.now c.args.value.now
