use Rattle.std.proofs.Common.{◌≡◌, None, false, arith}
use Rattle.std.specs.List.{list_any}
use Rattle.std.proofs.lemmas.Str.Pattern.{split_once_first}
use Rattle.pur_settings.specs.Items.{is_stop}
use Rattle.pur_settings.proofs.ItemLemmas.{no-stop}
use Rattle.pur_settings.proofs.sorts.ItemSort.find.Goals as goal

pub returns-in-None : goal.returns-in-None
returns-in-None c =
    let none : list_any is_stop c.args.text.now ≡ false = no-stop c.args.text.now (split_once_first 0x2E c.args.text.now None c.in-None.ensures.cases (omega arith)) in
    rw (c.in-Two.is, none) c.everywhere-in-None.ensures
