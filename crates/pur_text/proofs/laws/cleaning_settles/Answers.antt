use Rattle.pur_text.proofs.CleaningLemmas.{cleaned_twice}
use Rattle.pur_text.proofs.laws.cleaning_settles.Goals as goal

pub returns : goal.returns
returns c = cleaned_twice
