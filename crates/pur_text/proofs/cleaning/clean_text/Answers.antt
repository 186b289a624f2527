use Rattle.std.proofs.Common.{◌∙◌}
use Rattle.pur_text.proofs.CleaningLemmas.{nothing_copied}
use Rattle.pur_text.proofs.cleaning.clean_text.Goals as goal

pub returns : goal.returns
returns c = c.in_ok-clean_onto.ensures.text ∙ nothing_copied _ _ c.new-clean.ensures.bytes
