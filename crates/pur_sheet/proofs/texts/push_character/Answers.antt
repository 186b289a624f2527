use Rattle.std.proofs.Common.{◌∙◌, ap, string_bytes}
use Rattle.std.specs.Str.{chars}
use Rattle.std.proofs.lemmas.Str.{IsUtf8-string_bytes}
use Rattle.pur_laws.proofs.Texts.{chars_push}
use Rattle.pur_sheet.proofs.texts.push_character.Goals as goal

pub returns : goal.returns
returns c =
    ap chars c.in_ok-push.ensures.bytes
    ∙ chars_push (string_bytes c.args.text.now) c.args.c (IsUtf8-string_bytes c.args.text.now) c.ranges.c.0
