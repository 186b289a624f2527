use Rattle.std.proofs.Common.{string_bytes}
use Rattle.std.proofs.lemmas.Str.{IsUtf8-string_bytes}
use Rattle.pur_laws.proofs.Cases.{lowered-chars}
use Rattle.pur_cssprops.proofs.texts.lower.Goals as goal

pub returns : goal.returns
returns c =
    let lowered = c.in_ok-lowered.lowered in
    lowered-chars c.args.text.now (string_bytes lowered) c.utf8.text (IsUtf8-string_bytes lowered) c.in_ok-lowered.ensures
