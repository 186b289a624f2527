use Rattle.pur_values.proofs.CutLemmas.{digit_boundary, cut_behind}
use Rattle.pur_values.proofs.numbers.cut_behind_digits.Goals as goal

pub split_at-requires : goal.split_at-requires
split_at-requires c = rw (c.digit_count.ensures, c.as_bytes.ensures.value) (digit_boundary c.args.text.now c.utf8.text)

pub returns-clause-digits : goal.returns-clause-digits
returns-clause-digits c = rw (c.split_at.ensures.front, c.digit_count.ensures, c.as_bytes.ensures.value) (cut_behind c.args.text.now c.utf8.text).digits

pub returns-clause-unit : goal.returns-clause-unit
returns-clause-unit c = rw (c.split_at.ensures.back, c.digit_count.ensures, c.as_bytes.ensures.value) (cut_behind c.args.text.now c.utf8.text).unit
