use Rattle.std.proofs.Common.{rules}
use Rattle.std.proofs.lemmas.Iterator.{YieldsList-from_slice}
use Rattle.std.proofs.lemmas.Iterator.Search.{position_from_yields_List}
use borrow.Author.Tests.{tests}
use Rattle.pur_sheet.specs.Private.Words.{is_character}
use Rattle.pur_sheet.proofs.texts.place_of.Goals as goal

pub returns : goal.returns
returns c =
    position_from_yields_List (is_character c.args.wanted) _ _ c.position.result c.position.ensures.ran (YieldsList-from_slice c.args.text.now cc)
    (λ x b q k. search (rules, tests))
