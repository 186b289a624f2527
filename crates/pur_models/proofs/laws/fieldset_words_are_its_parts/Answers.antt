use Rattle.pur_models.proofs.WordLemmas.{fieldset_of_parts, parts_of_fieldset}
use Rattle.pur_models.proofs.laws.fieldset_words_are_its_parts.Goals as goal

pub returns : goal.returns
returns c doctype word = (parts_of_fieldset doctype word, fieldset_of_parts doctype word)
