use Rattle.pur_nesting.proofs.CountLemmas.{count_in_text-nested}
use Rattle.pur_nesting.proofs.laws.keeps_counts.Goals as goal

pub returns : goal.returns
returns c = λ d p k c nodes h other. count_in_text-nested c d p k nodes other h
