use Rattle.std.proofs.Common.{◌∙◌, ap}
use Rattle.pur_csstok.specs.Numbers.{number_read}
use Rattle.pur_csstok.proofs.AtomLaws.{number-reads_ascii}
use Rattle.pur_csstok.proofs.TextLemmas.{as-characters}
use Rattle.pur_csstok.proofs.numbers.read_number.Goals as goal

pub returns : goal.returns
returns c =
    let read = number_read c.args.signed in
    as-characters read (number-reads_ascii c.args.signed) c.args.raw.now c.utf8.raw c.in_ok-number.number (c.in_ok-number.ensures ∙ ap read c.as_bytes.ensures.value)
