use Rattle.pur_text.proofs.TrimmingLemmas.{leading_boundary, leading_part}
use Rattle.pur_text.proofs.trimming.trim_start.Goals as goal

pub split_at-requires : goal.split_at-requires
split_at-requires c = rw (c.leading_space.ensures, c.as_bytes.ensures.value) (leading_boundary c.args.text.now c.utf8.text)

pub returns : goal.returns
returns c = rw (c.split_at.ensures.back, c.leading_space.ensures, c.as_bytes.ensures.value) (leading_part c.args.text.now c.utf8.text).characters
