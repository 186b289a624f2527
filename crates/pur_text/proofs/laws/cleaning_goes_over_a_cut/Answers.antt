use Rattle.pur_text.proofs.FeedingLemmas.{cleaned_parted}
use Rattle.pur_text.proofs.laws.cleaning_goes_over_a_cut.Goals as goal

pub returns : goal.returns
returns c = cleaned_parted
