use Rattle.std.proofs.Common.{sym, ap, ◌==◌, ◌∙◌, ◌-◌, length, slice_index}
use Rattle.pur_text.proofs.FeedingLemmas.{last_byte}
use Rattle.pur_text.proofs.feeding.ends_in_cr.Goals as goal

pub returns : goal.returns
returns c = ap (λ t. slice_index t (length c.args.text.now - 1) == 13) c.as_bytes.ensures.value ∙ sym (last_byte c.args.text.now c.utf8.text c.requires)
