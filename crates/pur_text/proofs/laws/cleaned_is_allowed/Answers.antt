use Rattle.pur_text.proofs.CleaningLemmas.{cleaned_allowed}
use Rattle.pur_text.proofs.laws.cleaned_is_allowed.Goals as goal

pub returns : goal.returns
returns c = cleaned_allowed
