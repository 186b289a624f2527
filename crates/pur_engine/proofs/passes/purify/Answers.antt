use Rattle.std.proofs.Common.{◌∙◌, ap, subst, sym}
use Rattle.pur_text.specs.Cleaning.{cleaned}
use Rattle.pur_tree.specs.Image.{nodes_of}
use Rattle.pur_tree.specs.Tokens.{IsTreeOf}
use Rattle.pur_engine.specs.Purified.{closed_tags}
use Rattle.pur_engine.proofs.passes.purify.Goals as goal

pub returns : goal.returns
returns g c =
    let rules = c.args.settings.now in
    let rule = c.args.gate.now in
    let input = c.args.bytes.now in
    let built : IsTreeOf (nodes_of c.in_ok-forest.forest) (closed_tags rules rule (cleaned input)) =
    rw (c.as_str.ensures.value, c.in_ok-text.ensures) at c.in_ok-forest.ensures.tree in
    let it = c.in_ok-output.ensures.inputs input built in
    record {
      purified = it.purified_is;
      spelled = it.spelled;
      good = it.good;
      adds_no_text = it.adds_no_text;
      ledger = it.ledger;
      unchanged = it.unchanged;
      twice = it.twice;
    }
