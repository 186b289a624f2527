use Rattle.std.proofs.Common.{◌∙◌, ap, sym}
use Rattle.std.specs.List.{position}
use Rattle.std.specs.Str.{chars}
use Rattle.pur_text.specs.Private.Runs.{needs_care}
use Rattle.pur_text.proofs.CleaningLemmas.{cleaned_text}
use Rattle.pur_text.proofs.RunLemmas.{run_whole, run_allowed}
use Rattle.pur_text.proofs.cleaning.already_clean.Goals as goal

pub returns-in-None-clause-clean : goal.returns-in-None-clause-clean
returns-in-None-clause-clean c =
    let bytes = c.args.bytes.now in
    let same = c.in-Ok.ensures.0 in
    let is_text = c.in-Ok.ensures.1 in
    let quiet = run_whole bytes (c.in-None.ensures ∙ ap (position needs_care) (c.as_bytes.ensures.value ∙ same)) in
    ap chars same ∙ sym (cleaned_text bytes is_text (run_allowed bytes is_text quiet))
