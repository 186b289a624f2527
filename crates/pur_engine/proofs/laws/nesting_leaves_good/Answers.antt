use Rattle.pur_nesting.specs.Nesting.{permits_of}
use Rattle.pur_engine.proofs.SpelledLemmas.{joined}
use Rattle.pur_engine.proofs.laws.nesting_leaves_good.Goals as goal

pub returns : goal.returns
returns c rules rule nodes text spells valid =
    c.leaves_settled.ensures (permits_of rules) nodes (c.valid_are_settled.ensures rules.doctype rules.parent nodes valid.word valid.words (joined spells))
