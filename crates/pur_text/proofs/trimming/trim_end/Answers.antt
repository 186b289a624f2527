use Rattle.std.proofs.lemmas.List.Sums.{suffix_len-le-length}
use Rattle.pur_text.specs.Characters.{is_space}
use Rattle.pur_text.proofs.TrimmingLemmas.{trailing_boundary, trailing_part}
use Rattle.pur_text.proofs.trimming.trim_end.Goals as goal

pub overflow_sub-text : goal.overflow_sub-text
overflow_sub-text c = rw (c.trailing_space.ensures, c.as_bytes.ensures.value) (suffix_len-le-length is_space c.args.text.now)

pub split_at-requires : goal.split_at-requires
split_at-requires c = rw (c.trailing_space.ensures, c.as_bytes.ensures.value) (trailing_boundary c.args.text.now c.utf8.text)

pub returns : goal.returns
returns c = rw (c.split_at.ensures.front, c.trailing_space.ensures, c.as_bytes.ensures.value) (trailing_part c.args.text.now c.utf8.text).characters
