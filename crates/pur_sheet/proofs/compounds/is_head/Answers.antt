use Rattle.std.proofs.Common.{◌≡◌, ◌∙◌, ◌++◌, sym, ap, Bool, true, false, length, refl}
use Rattle.std.specs.Prelude.{◌||◌, ◌==◌, codes}
use Rattle.std.specs.Str.{bytes_eq, chars, str_to_ascii_lowercase}
use Rattle.std.proofs.lemmas.Str.{chars-nil}
use Rattle.pur_settings.specs.Rules.{permits_name}
use Rattle.pur_sheet.proofs.compounds.is_head.Goals as goal

neither : (a b c : Bool) → a ≡ false → b ≡ false → (a || b || c) ≡ c
neither true b c first second = absurd cc
neither false true c first second = absurd cc
neither false false c first second = refl

pub returns : goal.returns
returns c =
    let rules = c.args.settings.now in
    let head = c.args.head.now in
    c.permits_name.ensures
    ∙ ap (permits_name rules)
    (ap chars c.as_str.ensures.value ∙ c.in_ok-push_lowered.ensures
    ∙ ap (λ t. t ++ str_to_ascii_lowercase head) (ap chars c.new-name.ensures.bytes ∙ chars-nil))
    ∙ sym (neither (length head == 0) (bytes_eq head (codes "*")) (permits_name rules (str_to_ascii_lowercase head))
    (sym c.is_empty.ensures ∙ c.if-is_empty.false) (sym c.is_star.ensures ∙ c.if-is_star.false))
