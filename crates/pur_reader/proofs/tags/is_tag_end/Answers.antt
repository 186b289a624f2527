use Rattle.std.proofs.Common.{◌≡◌, ◌∙◌, ap, sym, true, false, length, refl}
use Rattle.std.specs.Prelude.{◌==◌, ◌||◌}
use Rattle.std.specs.Str.{chars, bytes_eq}
use Rattle.pur_laws.proofs.Cases.{empty-chars}
use Rattle.pur_laws.proofs.Texts.{bytes_eq-ascii}
use Rattle.pur_reader.specs.Private.Tags.{end_text}
use Rattle.pur_reader.proofs.tags.is_tag_end.Goals as goal

pub returns-then-is_empty : goal.returns-then-is_empty
returns-then-is_empty c =
    let none : (length (chars c.args.text.now) == 0) ≡ true = sym (empty-chars c.args.text.now c.utf8.text) ∙ sym c.is_empty.ensures ∙ c.if-is_empty.true in
    c.if-is_empty.true ∙ sym (ap (λ b. b || bytes_eq (chars c.args.text.now) (end_text true)) none)

pub returns-else-is_empty : goal.returns-else-is_empty
returns-else-is_empty c =
    let some : (length (chars c.args.text.now) == 0) ≡ false = sym (empty-chars c.args.text.now c.utf8.text) ∙ sym c.is_empty.ensures ∙ c.if-is_empty.false in
    c.eq.ensures ∙ sym (ap (λ b. b || bytes_eq (chars c.args.text.now) (end_text true)) some ∙ bytes_eq-ascii c.args.text.now (end_text true) c.utf8.text refl)
