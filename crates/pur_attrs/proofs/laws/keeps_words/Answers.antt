use Rattle.pur_attrs.proofs.StayingLemmas.{words_stay}
use Rattle.pur_attrs.proofs.laws.keeps_words.Goals as goal

pub returns : goal.returns
returns c doctype content rules rule nodes = words_stay doctype content rules rule nodes
