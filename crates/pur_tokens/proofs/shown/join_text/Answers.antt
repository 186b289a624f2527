-- The text that is taken in stands behind the one that was there.
use Rattle.std.proofs.Common.{◌++◌, ◌∙◌, ◌≡◌, [], ◌∷◌, ap, sym}
use Rattle.std.specs.Str.{chars}
use Rattle.pur_attrlist.specs.Texts.{text_of}
use Rattle.pur_attrlist.proofs.TextLaws.{pushed}
use Rattle.pur_tokens.specs.Joining.{join_token}
use Rattle.pur_tokens.specs.Shown.{plain_shown}
use Rattle.pur_tokens.specs.Tokens.{text_token}
use Rattle.pur_tokens.proofs.shown.join_text.Goals as goal

pub returns-in-Text-clause-ok : goal.returns-in-Text-clause-ok
returns-in-Text-clause-ok c =
    let run = c.in-Text.run' in
    let text = c.args.text in
    let whole : text_of c.push_str.new.self ≡ text_of run ++ text_of text =
    pushed run c.push_str.new.self c.as_str.result.now c.in_ok-push_str.ensures.bytes ∙ ap (λ t. text_of run ++ chars t) c.as_str.ensures.value in
    ap (λ token. join_token (plain_shown token) (text_token (text_of text) ∷ [])) c.in-Text.is ∙ ap (λ t. text_token t ∷ []) (sym whole)
