use Rattle.std.proofs.Common.{◌∙◌, ap}
use Rattle.pur_csstok.specs.Lengths.{length_lowered, length_read}
use Rattle.pur_csstok.proofs.AtomLaws.{length-reads_ascii}
use Rattle.pur_csstok.proofs.TextLemmas.{as-characters}
use Rattle.pur_csstok.proofs.lengths.read_length.Goals as goal

pub returns : goal.returns
returns c =
    let signed = c.args.signed in
    let percent = c.args.percent in
    as-characters (length_read signed percent) (length-reads_ascii signed percent) c.args.raw.now c.utf8.raw c.in_ok-length.length
    (c.in_ok-length.ensures ∙ ap (length_lowered signed percent) (c.as_str.ensures.value ∙ c.in_ok-lowered.ensures))
