use Rattle.pur_models.proofs.WordLemmas.{parts_of_table, table_of_parts}
use Rattle.pur_models.proofs.laws.table_words_are_its_parts.Goals as goal

pub returns : goal.returns
returns c doctype word = (parts_of_table doctype word, table_of_parts doctype word)
