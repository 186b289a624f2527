use Rattle.std.proofs.Common.{◌∙◌, ◌++◌, ap, sym, refl}
use Rattle.std.specs.Prelude.{codes}
use Rattle.std.specs.Str.{chars}
use Rattle.std.proofs.lemmas.List.{append_assoc}
use Rattle.pur_laws.proofs.Texts.{chars_ascii}
use Rattle.pur_text.specs.Texts.{text_of}
use Rattle.pur_sheet.specs.Private.Bodies.{body_behind}
use Rattle.pur_sheet.proofs.bodies.push_body.Goals as goal

pub returns : goal.returns
returns c =
    let old = text_of c.args.text.now in
    let body = chars c.args.body.now in
    c.in_ok-push_text-2.ensures
    ∙ ap (λ t. t ++ body) (c.in_ok-push_text.ensures ∙ ap (λ t. old ++ t) (chars_ascii (codes "\n") refl))
    ∙ append_assoc old (codes "\n") body
    ∙ sym (ap (λ begun. old ++ body_behind begun body) c.if-not-begun.false)
