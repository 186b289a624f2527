use Rattle.pur_text.proofs.CleaningLemmas.{cleaned_encoded}
use Rattle.pur_text.proofs.laws.allowed_is_cleaned.Goals as goal

pub returns : goal.returns
returns c = cleaned_encoded
