use Rattle.std.proofs.Common.{◌≡◌, ◌∙◌, ◌++◌, ◌∷◌, [], true, ap, sym, string_bytes}
use lib.Utf8.{scalar}
use Rattle.std.specs.Str.{chars}
use Rattle.std.proofs.lemmas.Bool.{cond-true}
use Rattle.std.proofs.lemmas.Str.{IsUtf8-string_bytes}
use Rattle.pur_text.specs.Characters.{is_allowed}
use Rattle.pur_laws.proofs.Texts.{chars_push}
use Rattle.pur_entities.proofs.references.push_allowed.Goals as goal

pub returns-in_ok-push : goal.returns-in_ok-push
returns-in_ok-push c =
    let number = c.args.number in
    let old = string_bytes c.args.output.now in
    let same : c.in-Some.c ≡ number = c.in-Some.ensures.value.1 in
    let allowed : is_allowed number ≡ true = ap is_allowed (sym same) ∙ sym c.is_allowed.ensures ∙ c.if-is_allowed.true in
    ap chars c.in_ok-push.ensures.bytes
    ∙ chars_push old c.in-Some.c (IsUtf8-string_bytes c.args.output.now) (ap scalar same ∙ c.in-Some.ensures.value.0)
    ∙ ap (λ n. chars old ++ n ∷ []) same
    ∙ ap (λ t. chars old ++ t) (sym (cond-true _ _ _ allowed))
