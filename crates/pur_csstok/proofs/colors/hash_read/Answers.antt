use Rattle.std.proofs.Common.{◌∙◌, ap}
use Rattle.pur_csstok.specs.Colors.{hash_read}
use Rattle.pur_csstok.proofs.ColorLaws.{hash-reads_ascii}
use Rattle.pur_csstok.proofs.TextLemmas.{as-characters}
use Rattle.pur_csstok.proofs.colors.hash_read.Goals as goal

pub returns : goal.returns
returns c =
    as-characters hash_read hash-reads_ascii c.args.text.now c.utf8.text c.in_ok-color.color (c.in_ok-color.ensures ∙ ap hash_read c.as_bytes.ensures.value)
