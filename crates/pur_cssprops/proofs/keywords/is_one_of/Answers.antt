use Rattle.std.proofs.Common.{◌∙◌, ℕ, List, rules, Bor}
use Rattle.std.specs.Str.{bytes_eq}
use Rattle.std.proofs.lemmas.Iterator.{YieldsList-from_slice}
use Rattle.std.proofs.lemmas.Iterator.Search.{any_from_yields_List}
use borrow.Author.Tests.{tests}
use Rattle.pur_cssprops.proofs.KeywordLemmas.{among_map}
use Rattle.pur_cssprops.proofs.keywords.is_one_of.Goals as goal

pub returns : goal.returns
returns c =
    any_from_yields_List (λ (w : Bor (List ℕ)). bytes_eq c.args.word.now w.now) _ _ c.any.result c.any.ensures.ran (YieldsList-from_slice c.args.words.now cc)
    (λ x b q k. search (rules, tests))
    ∙ among_map c.args.words.now c.args.word.now
