use Rattle.pur_models.proofs.WordLemmas.{empty_if, if_empty}
use Rattle.pur_models.proofs.laws.empty_word_is_of_few_kinds.Goals as goal

pub returns : goal.returns
returns c doctype content = (empty_if doctype content, if_empty doctype content)
