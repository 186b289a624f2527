use Rattle.std.proofs.Common.{rules}
use Rattle.std.specs.Prelude.{◌==◌}
use Rattle.std.proofs.lemmas.Iterator.Search.{all_from_yields_List}
use Rattle.std.proofs.lemmas.Iterator.Splits.{YieldsList-from_slice_split}
use borrow.Author.Tests.{tests}
use Rattle.pur_text.specs.Hosts.{is_label}
use Rattle.pur_text.proofs.hosts.is_host_name.Goals as goal

pub returns : goal.returns
returns c =
    all_from_yields_List is_label _ _ c.all.result c.all.ensures.ran
    (YieldsList-from_slice_split _ (λ b. b == 0x2E) c.args.text.now c.split.ensures.rest c.split.ensures.done c.split.ensures.closure (λ x b q k. search (rules, tests)))
    (λ x b q k. search (rules, tests))
