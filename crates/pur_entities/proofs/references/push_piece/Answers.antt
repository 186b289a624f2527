use Rattle.std.proofs.Common.{◌∙◌, ap, string_bytes, refl}
use Rattle.std.specs.Str.{chars}
use Rattle.std.proofs.lemmas.Str.{IsUtf8-string_bytes}
use Rattle.pur_laws.proofs.Texts.{chars_push}
use Rattle.pur_entities.proofs.ReadingLemmas.{ampersand_written}
use Rattle.pur_entities.proofs.references.push_piece.Goals as goal

pub returns-in_ok-push-in-None-clause-step : goal.returns-in_ok-push-in-None-clause-step
returns-in_ok-push-in-None-clause-step c =
    let old = string_bytes c.args.output.now in
    let one = ap chars c.in_ok-push-in-None.ensures.bytes ∙ chars_push old 38 (IsUtf8-string_bytes c.args.output.now) refl in
    ampersand_written (chars old) (chars (string_bytes c.push.new.self)) (chars c.args.text.now) one c.in-None.ensures.none
