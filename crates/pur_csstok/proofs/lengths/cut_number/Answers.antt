use Rattle.pur_csstok.specs.Lengths.{is_number_character}
use Rattle.pur_csstok.proofs.DigitLemmas.{number-ascii}
use Rattle.pur_laws.proofs.Ends.{front_boundary}
use Rattle.pur_csstok.proofs.lengths.cut_number.Goals as goal

pub split_at-requires : goal.split_at-requires
split_at-requires c =
    rw (c.number_len.ensures, c.as_bytes.ensures.value) (front_boundary is_number_character number-ascii c.args.text.now c.utf8.text)
