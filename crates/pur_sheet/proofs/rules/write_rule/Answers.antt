use Rattle.std.proofs.Common.{◌≡◌, ◌∙◌, ◌++◌, ap, refl, List, ℕ, append_assoc}
use Rattle.std.specs.Prelude.{codes}
use Rattle.std.specs.Str.{chars}
use Rattle.pur_laws.proofs.Texts.{chars_ascii}
use Rattle.pur_text.specs.Texts.{text_of}
use Rattle.pur_sheet.specs.Selectors.{selectors_text}
use Rattle.pur_sheet.specs.Sheets.{rule_text}
use Rattle.pur_sheet.proofs.rules.write_rule.Goals as goal

in_order : (old selectors style : List ℕ) → (((old ++ selectors) ++ codes " {") ++ style) ++ codes "}\n" ≡ old ++ rule_text selectors style
in_order old selectors style = simp append_assoc

pub returns : goal.returns
returns c =
    let old = text_of c.args.sheet.now in
    let selectors = selectors_text c.args.scope.now c.args.prelude.now in
    let style = chars c.args.style.now in
    c.in_ok-push_text-3.ensures ∙ ap (λ t. t ++ chars (codes "}\n")) c.in_ok-push_text-2.ensures
    ∙ ap (λ t. (t ++ style) ++ chars (codes "}\n")) (c.in_ok-push_text.ensures ∙ ap (λ t. t ++ chars (codes " {")) c.in_ok-push_selectors.ensures)
    ∙ ap (λ t. (((old ++ selectors) ++ t) ++ style) ++ chars (codes "}\n")) (chars_ascii (codes " {") refl)
    ∙ ap (λ t. (((old ++ selectors) ++ codes " {") ++ style) ++ t) (chars_ascii (codes "}\n") refl)
    ∙ in_order old selectors style
