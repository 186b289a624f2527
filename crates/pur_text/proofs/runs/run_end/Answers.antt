use Rattle.std.proofs.Common.{rules}
use Rattle.std.proofs.lemmas.Iterator.{YieldsList-from_slice}
use Rattle.std.proofs.lemmas.Iterator.Search.{position_from_yields_List}
use borrow.Author.Tests.{tests}
use Rattle.pur_text.specs.Private.Runs.{needs_care}
use Rattle.pur_text.proofs.runs.run_end.Goals as goal

pub returns : goal.returns
returns c =
    position_from_yields_List needs_care _ _ c.position.result c.position.ensures.ran (YieldsList-from_slice c.args.text.now cc)
    (λ x b q k. search (rules, tests))
